use Rattle.sr_machine.proofs.Words.{named_back, named_there}
use Rattle.sr_machine.proofs.laws.names_agree.Goals as goal

pub returns-clause-there : goal.returns-clause-there
returns-clause-there c = named_there

pub returns-clause-back : goal.returns-clause-back
returns-clause-back c = named_back
