use Rattle.sr_inv_facts.proofs.Keeping.{begun_keeps, events_keep}
use Rattle.sr_inv_facts.specs.InUpdate.{PhasesHold}
use Rattle.sr_inv_update.proofs.PhasesKept.{phases_keep, phases_open}
use Rattle.sr_inv_update.proofs.laws.phases_are_kept.Goals as goal

pub returns-clause-opening : goal.returns-clause-opening
returns-clause-opening c = phases_open

pub returns-clause-begun : goal.returns-clause-begun
returns-clause-begun c = begun_keeps PhasesHold (λ s i. i.update.update) phases_keep

pub returns-clause-event : goal.returns-clause-event
returns-clause-event c = events_keep PhasesHold (λ s i. i.update.update) phases_keep
