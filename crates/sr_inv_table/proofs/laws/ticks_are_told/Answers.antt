use Rattle.sr_inv_table.proofs.Ticking.{ticks}
use Rattle.sr_inv_table.proofs.laws.ticks_are_told.Goals as goal

pub returns : goal.returns
returns c = ticks
