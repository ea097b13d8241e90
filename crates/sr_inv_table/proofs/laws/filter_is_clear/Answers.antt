use Rattle.sr_inv_table.proofs.Recorders.{filter}
use Rattle.sr_inv_table.proofs.laws.filter_is_clear.Goals as goal

pub returns : goal.returns
returns c = filter
