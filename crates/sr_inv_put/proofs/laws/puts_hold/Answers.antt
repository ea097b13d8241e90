use Rattle.sr_inv_put.proofs.Holding.{puts}
use Rattle.sr_inv_put.proofs.laws.puts_hold.Goals as goal

pub returns : goal.returns
returns c = puts
