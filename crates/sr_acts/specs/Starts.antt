-- What a free controller begins, and what is decided with it.
use Rattle.std.specs.Prelude.{Bool, true, false, drop}
use Rattle.sr_machine.specs.Starting.{Start, beginning, with_job}
use Rattle.sr_machine.specs.declared.controller_view.ControllerView.{ControllerView}
use Rattle.sr_machine.specs.declared.draw.Draw.TheVariants as draw
use Rattle.sr_machine.specs.declared.job.Job.{Job}
use Rattle.sr_machine.specs.declared.job.Job.TheVariants as job
use Rattle.sr_machine.specs.declared.store.Store.TheVariants as store
use Rattle.sr_acts.specs.declared.beginning.Beginning.{Beginning}
use Rattle.sr_acts.specs.declared.beginning.Beginning.TheVariants.{Refusal, Outage, Update, Just}

abbrev pub start_for : ControllerView → Beginning → Start
start_for c (Refusal change) = record (with_job c (job.Draw (draw.Refused change))) { gives = drop 1 c.gives; refusing = false }
start_for c (Outage server) = record (with_job c (job.Draw (draw.TakenDown server))) { outages = drop 1 c.outages }
start_for c (Update u) = beginning c (drop 1 c.gives) u
start_for c (Just j) = with_job c j

-- its first job
abbrev pub job_for : Beginning → Job
job_for (Refusal change) = job.Draw (draw.Refused change)
job_for (Outage server) = job.Draw (draw.TakenDown server)
job_for (Update u) = job.Store (store.Member u 0)
job_for (Just j) = j

-- no job is set
abbrev pub is_free : Job → Bool
is_free job.Free = true
is_free j = false
