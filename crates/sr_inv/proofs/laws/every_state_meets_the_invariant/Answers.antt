use Rattle.sr_inv.proofs.Joined.{reached_meets}
use Rattle.sr_inv.proofs.laws.every_state_meets_the_invariant.Goals as goal

pub returns : goal.returns
returns c = reached_meets
