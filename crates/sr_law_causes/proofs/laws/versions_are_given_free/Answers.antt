use Rattle.sr_law_causes.proofs.Plainly.{versions_free}
use Rattle.sr_law_causes.proofs.laws.versions_are_given_free.Goals as goal

pub returns : goal.returns
returns c = versions_free
