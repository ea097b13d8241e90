use Rattle.sr_inv_facts.proofs.Keeping.{begun_keeps, events_keep}
use Rattle.sr_inv_facts.specs.InUpdate.{VersionsKept}
use Rattle.sr_inv_update.proofs.VersionEvents.{versions_keep, versions_open}
use Rattle.sr_inv_update.proofs.laws.versions_are_kept.Goals as goal

pub returns-clause-opening : goal.returns-clause-opening
returns-clause-opening c = versions_open

pub returns-clause-begun : goal.returns-clause-begun
returns-clause-begun c = begun_keeps VersionsKept (λ s i. i.update.versions) versions_keep

pub returns-clause-event : goal.returns-clause-event
returns-clause-event c = events_keep VersionsKept (λ s i. i.update.versions) versions_keep
