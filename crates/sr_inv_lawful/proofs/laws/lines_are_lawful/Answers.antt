use Rattle.sr_inv_lawful.proofs.Lawful.{rested_lawful, settled_lawful}
use Rattle.sr_inv_lawful.proofs.laws.lines_are_lawful.Goals as goal

pub returns-clause-rested : goal.returns-clause-rested
returns-clause-rested c = rested_lawful

pub returns-clause-settled : goal.returns-clause-settled
returns-clause-settled c = settled_lawful
