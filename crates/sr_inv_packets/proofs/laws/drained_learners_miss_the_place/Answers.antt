use Rattle.sr_inv_packets.proofs.Placing.{drained}
use Rattle.sr_inv_packets.proofs.laws.drained_learners_miss_the_place.Goals as goal

pub returns : goal.returns
returns c = drained
