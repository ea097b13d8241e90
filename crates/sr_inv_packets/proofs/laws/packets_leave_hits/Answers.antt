use Rattle.sr_inv_packets.proofs.Hits.{leave_hits}
use Rattle.sr_inv_packets.proofs.laws.packets_leave_hits.Goals as goal

pub returns : goal.returns
returns c = leave_hits
