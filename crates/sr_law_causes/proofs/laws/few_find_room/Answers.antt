use Rattle.sr_law_causes.proofs.Reporting.{few}
use Rattle.sr_law_causes.proofs.laws.few_find_room.Goals as goal

pub returns : goal.returns
returns c = few
