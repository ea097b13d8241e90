use Rattle.sr_inv_table.proofs.Recorders.{recorders}
use Rattle.sr_inv_table.proofs.laws.recorded_openers_leave.Goals as goal

pub returns : goal.returns
returns c = recorders
