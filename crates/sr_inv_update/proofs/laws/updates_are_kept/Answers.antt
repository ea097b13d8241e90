use Rattle.sr_inv_facts.proofs.Keeping.{begun_keeps, events_keep}
use Rattle.sr_inv_facts.specs.InUpdate.{ChangesKept, PhasesHold, VersionsKept}
use Rattle.sr_inv_update.proofs.ChangeEvents.{changes_keep, changes_open}
use Rattle.sr_inv_update.proofs.PhasesKept.{phases_keep, phases_open}
use Rattle.sr_inv_update.proofs.VersionEvents.{versions_keep, versions_open}
use Rattle.sr_inv_update.proofs.laws.updates_are_kept.Goals as goal

pub returns-clause-opening : goal.returns-clause-opening
returns-clause-opening c =
    λ k f. record { update = phases_open k f; versions = versions_open k f; changes = changes_open k f }

pub returns-clause-begun : goal.returns-clause-begun
returns-clause-begun c = λ s i. record {
  update = begun_keeps PhasesHold (λ s i. i.update.update) phases_keep s i;
  versions = begun_keeps VersionsKept (λ s i. i.update.versions) versions_keep s i;
  changes = begun_keeps ChangesKept (λ s i. i.update.changes) changes_keep s i;
}

pub returns-clause-event : goal.returns-clause-event
returns-clause-event c = λ s t e h a q. record {
  update = events_keep PhasesHold (λ s i. i.update.update) phases_keep s t e h a q;
  versions = events_keep VersionsKept (λ s i. i.update.versions) versions_keep s t e h a q;
  changes = events_keep ChangesKept (λ s i. i.update.changes) changes_keep s t e h a q;
}
