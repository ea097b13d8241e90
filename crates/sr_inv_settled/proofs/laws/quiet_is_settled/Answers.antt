use Rattle.sr_inv_settled.proofs.Joined.{quiet}
use Rattle.sr_inv_settled.proofs.laws.quiet_is_settled.Goals as goal

pub returns : goal.returns
returns c = quiet
