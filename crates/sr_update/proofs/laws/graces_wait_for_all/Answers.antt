use Rattle.sr_update.proofs.States.{seen_all}
use Rattle.sr_update.proofs.laws.graces_wait_for_all.Goals as goal

pub returns-clause-seen : goal.returns-clause-seen
returns-clause-seen c = seen_all
