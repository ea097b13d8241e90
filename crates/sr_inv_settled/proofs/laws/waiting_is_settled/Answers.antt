use Rattle.sr_inv_settled.proofs.Joined.{waiting}
use Rattle.sr_inv_settled.proofs.laws.waiting_is_settled.Goals as goal

pub returns : goal.returns
returns c = waiting
