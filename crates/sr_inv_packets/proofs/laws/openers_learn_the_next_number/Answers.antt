use Rattle.sr_inv_packets.proofs.Learning.{openers_learn}
use Rattle.sr_inv_packets.proofs.laws.openers_learn_the_next_number.Goals as goal

pub returns : goal.returns
returns c = openers_learn
