use Rattle.sr_law_causes.proofs.Unchanged.{unchanged}
use Rattle.sr_law_causes.proofs.laws.nothing_holds_unchanged.Goals as goal

pub returns : goal.returns
returns c = unchanged
