use Rattle.sr_standing.proofs.Making.{made_alone, made_free}
use Rattle.sr_standing.proofs.laws.jobs_may_change.Goals as goal

pub returns-clause-alone : goal.returns-clause-alone
returns-clause-alone c = made_alone

pub returns-clause-free : goal.returns-clause-free
returns-clause-free c = made_free

pub returns-clause-placed : goal.returns-clause-placed
returns-clause-placed c = λ from ms taken key place entries h. h.hit
