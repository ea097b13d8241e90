use Rattle.sr_inv_final.proofs.Resting.{rests}
use Rattle.sr_inv_final.proofs.laws.empty_is_at_rest.Goals as goal

pub returns : goal.returns
returns c = rests
