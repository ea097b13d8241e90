use Rattle.sr_inv_table.proofs.Ringing.{rings}
use Rattle.sr_inv_table.proofs.laws.rings_are_told.Goals as goal

pub returns : goal.returns
returns c = rings
