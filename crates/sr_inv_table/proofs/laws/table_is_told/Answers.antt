use Rattle.sr_inv_table.proofs.Tabling.{table}
use Rattle.sr_inv_table.proofs.laws.table_is_told.Goals as goal

pub returns : goal.returns
returns c = table
