use Rattle.sr_inv_packets.proofs.Numbers.{nowhere}
use Rattle.sr_inv_packets.proofs.laws.free_numbers_stand_nowhere.Goals as goal

pub returns : goal.returns
returns c = nowhere
