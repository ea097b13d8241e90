use Rattle.sr_inv_final.proofs.Ending.{final}
use Rattle.sr_inv_final.proofs.laws.lines_are_final.Goals as goal

pub returns : goal.returns
returns c = final
