use Rattle.sr_inv_put.proofs.Beginning.{begins}
use Rattle.sr_inv_put.proofs.laws.plans_may_be_put.Goals as goal

pub returns : goal.returns
returns c = begins
