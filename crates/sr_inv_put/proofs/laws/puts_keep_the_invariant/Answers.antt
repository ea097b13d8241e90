use Rattle.sr_inv_put.proofs.Kept.{puts_keep}
use Rattle.sr_inv_put.proofs.laws.puts_keep_the_invariant.Goals as goal

pub returns : goal.returns
returns c = puts_keep
