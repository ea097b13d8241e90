use Rattle.sr_inv_entered.proofs.Lawful.{acts_lawful, picks_lawful}
use Rattle.sr_inv_entered.proofs.laws.picks_are_lawful.Goals as goal

pub returns-clause-picks : goal.returns-clause-picks
returns-clause-picks c = picks_lawful

pub returns-clause-acts : goal.returns-clause-acts
returns-clause-acts c = acts_lawful
