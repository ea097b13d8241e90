use Rattle.sr_inv_facts.proofs.Keeping.{begun_keeps, events_keep}
use Rattle.sr_inv_facts.specs.InJobs.{InJobs}
use Rattle.sr_inv_jobs.proofs.JobsKept.{jobs_keep}
use Rattle.sr_inv_jobs.proofs.JobsOpen.{jobs_open}
use Rattle.sr_inv_jobs.proofs.laws.jobs_are_kept.Goals as goal

pub returns-clause-opening : goal.returns-clause-opening
returns-clause-opening c = jobs_open

pub returns-clause-begun : goal.returns-clause-begun
returns-clause-begun c = begun_keeps InJobs (λ s i. i.jobs) jobs_keep

pub returns-clause-event : goal.returns-clause-event
returns-clause-event c = events_keep InJobs (λ s i. i.jobs) jobs_keep
