use Rattle.sr_inv_rest.proofs.Resting.{settled_rests}
use Rattle.sr_inv_rest.proofs.laws.turns_end_at_rest.Goals as goal

pub returns : goal.returns
returns c = settled_rests
