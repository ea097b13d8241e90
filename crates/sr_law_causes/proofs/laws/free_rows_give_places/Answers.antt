use Rattle.sr_law_causes.proofs.Freely.{free_rows}
use Rattle.sr_law_causes.proofs.laws.free_rows_give_places.Goals as goal

pub returns : goal.returns
returns c = free_rows
