-- The parts of what is said of the transit filter are all of it.
use Rattle.std.proofs.Common.{ℕ, slice_set, Some, None, Option, ◌≡◌}
use Rattle.sr_inv_facts.specs.Fitted.{IsPacket}
use Rattle.sr_inv_facts.specs.InFilter.{DrainedKept, InFilter, LearnersKept, MarkersKept, PendingKept, ReportsKept}
use Rattle.sr_inv_facts.specs.Invariant.{Invariant}
use Rattle.sr_inv_facts.specs.Laws.{OpensWith}
use Rattle.sr_inv_filter.proofs.DrainedReports.{drained_keep, drained_open, drained_part}
use Rattle.sr_inv_filter.proofs.Learners.{learners_keep, learners_open, learners_part}
use Rattle.sr_inv_filter.proofs.PendingKeys.{pending_keep, pending_open, pending_part, pending_put}
use Rattle.sr_inv_filter.proofs.RingReports.{reports_keep, reports_open, reports_part, reports_put}
use Rattle.sr_inv_filter.proofs.SetPlaces.{markers_keep, markers_open, markers_part}
use Rattle.sr_machine.specs.Core.{Core, opening}
use Rattle.sr_machine.specs.Jobs.{job_op}
use Rattle.sr_machine.specs.Keeping.{AfterJob, AfterStage, Keeps, begun_core, job_core, stage_core}
use Rattle.sr_machine.specs.Pipe.{pipe_op}
use Rattle.sr_machine.specs.declared.job.Job.{Job}
use Rattle.sr_machine.specs.declared.op.Op.{Op}
use Rattle.sr_machine.specs.declared.pipe_view.PipeView.{PipeView}
use Rattle.sr_machine.specs.declared.stage.Stage.{Stage}
use Rattle.sr_machine.specs.declared.stage.Stage.TheVariants.{Enter}
use Rattle.sr_inv_facts.specs.Putting.{put_core}
use Rattle.sr_machine.specs.declared.put.Put.{Put}
use Rattle.sr_machine.specs.declared.job.Job.TheVariants.{Free}

whole : (s : Core) → PendingKept s → ReportsKept s → LearnersKept s → DrainedKept s → MarkersKept s → InFilter s
whole s a b c d e = record { filter = record { pending = a; reports = b; learners = c; drained = d; markers = e } }

stage_whole : (s : Core) (p : ℕ) (v : PipeView) (at : Stage) (o : Option Op) → AfterStage PendingKept s p v at o → AfterStage ReportsKept s p v at o
    → AfterStage LearnersKept s p v at o → AfterStage DrainedKept s p v at o → AfterStage MarkersKept s p v at o
    → AfterStage InFilter s p v at o
stage_whole s p v at None a b c d e = tt
stage_whole s p v at (Some o) a b c d e = whole (stage_core s p v at o) a b c d e

job_whole : (s : Core) (j : Job) (o : Option Op) → AfterJob PendingKept s j o → AfterJob ReportsKept s j o → AfterJob LearnersKept s j o
    → AfterJob DrainedKept s j o → AfterJob MarkersKept s j o
    → AfterJob InFilter s j o
job_whole s j None a b c d e = tt
job_whole s j (Some o) a b c d e = whole (job_core s j o) a b c d e

pub filter_keep : Keeps IsPacket Invariant InFilter
filter_keep = record {
  stages = λ s p v at q e i h.
      stage_whole s p v at (pipe_op s.config.layout v at) (pending_keep.stages s p v at q e i (pending_part s i))
      (reports_keep.stages s p v at q e i (reports_part s i)) (learners_keep.stages s p v at q e i (learners_part s i))
      (drained_keep.stages s p v at q e i (drained_part s i)) (markers_keep.stages s p v at q e i (markers_part s i));
  begins = λ s i h.
      whole (begun_core s) (pending_keep.begins s i (pending_part s i)) (reports_keep.begins s i (reports_part s i))
      (learners_keep.begins s i (learners_part s i)) (drained_keep.begins s i (drained_part s i)) (markers_keep.begins s i (markers_part s i));
  jobs = λ s j q b i h.
      job_whole s j (job_op s.config s.controller j) (pending_keep.jobs s j q b i (pending_part s i)) (reports_keep.jobs s j q b i (reports_part s i))
      (learners_keep.jobs s j q b i (learners_part s i)) (drained_keep.jobs s j q b i (drained_part s i)) (markers_keep.jobs s j q b i (markers_part s i));
  enters = λ s p v packet q r u n a i h.
      whole (record s { pipes = slice_set s.pipes p (record v { stage = Enter packet }) }) (pending_keep.enters s p v packet q r u n a i (pending_part s i))
      (reports_keep.enters s p v packet q r u n a i (reports_part s i)) (learners_keep.enters s p v packet q r u n a i (learners_part s i))
      (drained_keep.enters s p v packet q r u n a i (drained_part s i)) (markers_keep.enters s p v packet q r u n a i (markers_part s i));
  clocks = λ s ms q i h. record { filter = h.filter };
  refusals = λ s q i h. record { filter = h.filter };
}

pub filter_put : (s : Core) (p : Put) → s.controller.job ≡ Free → Invariant s → InFilter (put_core s p)
filter_put s p free i = whole (put_core s p) (pending_put s p free i) (reports_put s p free i) (learners_part s i) tt (markers_part s i)

pub filter_part : (s : Core) → Invariant s → InFilter s
filter_part s i = i.filter

pub filter_open : OpensWith InFilter
filter_open k f = whole (opening k) (pending_open k f) (reports_open k f) (learners_open k f) (drained_open k f) (markers_open k f)
