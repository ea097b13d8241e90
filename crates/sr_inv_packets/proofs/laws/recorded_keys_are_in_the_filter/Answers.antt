use Rattle.sr_inv_packets.proofs.Marking.{recorded}
use Rattle.sr_inv_packets.proofs.laws.recorded_keys_are_in_the_filter.Goals as goal

pub returns : goal.returns
returns c = recorded
