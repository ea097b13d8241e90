use Rattle.sr_inv_packets.proofs.Track.{on_track}
use Rattle.sr_inv_packets.proofs.laws.packets_are_on_track.Goals as goal

pub returns : goal.returns
returns c = on_track
