use Rattle.sr_machine.proofs.Following.{first_begins, goes}
use Rattle.sr_machine.proofs.laws.acts_have_cases.Goals as goal

pub returns-clause-begun : goal.returns-clause-begun
returns-clause-begun c = first_begins

pub returns-clause-next : goal.returns-clause-next
returns-clause-next c = goes
