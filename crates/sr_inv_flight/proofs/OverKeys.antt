-- The key of a connection that is over is one, while its place is still to be emptied.
use Rattle.std.proofs.Common.{◌≡◌, ℕ, Option, Some, None, subst}
use Rattle.sr_base.specs.Key.{IsKey}
use Rattle.sr_inv_facts.proofs.Beginning.{begun_by}
use Rattle.sr_inv_facts.proofs.Plain.{OfPlain, plain_cleared, plain_passed, plain_phase, plain_vip, plain_waited}
use Rattle.sr_inv_facts.proofs.Ranges.{entry_key}
use Rattle.sr_inv_facts.specs.Fitted.{IsPacket}
use Rattle.sr_inv_facts.specs.InFlight.{OnOver, OverKeyed}
use Rattle.sr_inv_facts.specs.InJobs.{JobHolds, seen}
use Rattle.sr_inv_facts.specs.Invariant.{Invariant}
use Rattle.sr_inv_facts.specs.Laws.{OpensWith}
use Rattle.sr_machine.proofs.Following.{goes}
use Rattle.sr_machine.specs.Begins.{Begins}
use Rattle.sr_machine.specs.Config.{Config}
use Rattle.sr_machine.specs.Core.{Core, printed}
use Rattle.sr_machine.specs.Goes.{Goes}
use Rattle.sr_machine.specs.Jobs.{book_next, job_next, job_op}
use Rattle.sr_machine.specs.Keeping.{AfterJob, AfterStage, Keeps}
use Rattle.sr_machine.specs.Opening.{opening_controller}
use Rattle.sr_machine.specs.Ops.{op_answer, op_name}
use Rattle.sr_machine.specs.Pipe.{pipe_op}
use Rattle.sr_machine.specs.Starting.{Start}
use Rattle.sr_machine.specs.declared.controller_view.ControllerView.{ControllerView}
use Rattle.sr_machine.specs.declared.job.Job.{Job}
use Rattle.sr_machine.specs.declared.op.Op.{Op}
use Rattle.sr_machine.specs.declared.pipe_view.PipeView.{PipeView}
use Rattle.sr_machine.specs.declared.stage.Stage.{Stage}
use Rattle.sr_machine.specs.Begins as begin
use Rattle.sr_machine.specs.Goes as go
use Rattle.sr_machine.specs.declared.job.Job.TheVariants as job

none_over : OfPlain (λ j. OnOver j IsKey)
none_over = record {
  free = tt;
  comes = λ u p. tt;
  coming = λ u p. tt;
  retiring = λ key. tt;
  answer = λ r. tt;
  phase = λ u p. tt;
  filter = λ u. tt;
  source = λ key from. tt;
  judge = λ p. tt;
  drain = λ w. tt;
}

module _ (s : Core) (i : Invariant s) where
  -- a connection that is retired had an entry, whose key is one
  goes_over : (x : ℕ) (j m : Job) → s.controller.job ≡ j → Goes s.config s.controller x j m → OnOver m IsKey
  goes_over x j m q (go.retired key place version) =
      let h = subst (JobHolds s.config (seen s.controller) (printed s)) q i.jobs.holds.stands in
      (entry_key s.config i.shape.config.layout s.controller i.shape.book i.shape.controller key h.entry h.found).is_key
  goes_over x j m q (go.comes u p) = plain_phase (λ j. OnOver j IsKey) none_over u p
  goes_over x j m q (go.cleared key place w) = plain_cleared (λ j. OnOver j IsKey) none_over key w
  goes_over x j m q (go.phase_stored u p) = plain_vip (λ j. OnOver j IsKey) none_over u p
  goes_over x j m q (go.pass_last g pipe w a b) = plain_passed (λ j. OnOver j IsKey) none_over w
  goes_over x j m q (go.drain_last pipe count w a b) =
      plain_waited (λ j. OnOver j IsKey) none_over s.controller.vips (book_next s.config s.controller (job.Drain pipe count w) x).entries w
  goes_over x j m q g = tt

  job_kept : (j : Job) (o : Option Op) → s.controller.job ≡ j → AfterJob OverKeyed s j o
  job_kept j None q = tt
  job_kept j (Some o) q =
      let x = op_answer o (s.words (op_name o)) in
      goes_over x j (job_next s.config s.controller j x) q (goes s.config s.controller x j)

starts_over : (k : Config) (c : ControllerView) (t : Start) → Begins k c t → OnOver t.job IsKey
starts_over k c t (begin.releases vip version g) = tt
starts_over k c t g = tt

stage_kept : (s : Core) (p : ℕ) (v : PipeView) (at : Stage) (o : Option Op) → OverKeyed s → AfterStage OverKeyed s p v at o
stage_kept s p v at None h = tt
stage_kept s p v at (Some o) h = h

pub over_keep : Keeps IsPacket Invariant OverKeyed
over_keep = record {
  stages = λ s p v at q e i h. stage_kept s p v at (pipe_op s.config.layout v at) h;
  begins = λ s i h. begun_by s.config s.controller (λ c. OnOver c.job IsKey) h (λ q t g. starts_over s.config s.controller t g);
  jobs = λ s j q b i h. job_kept s i j (job_op s.config s.controller j) q;
  enters = λ s p v packet q r u n a i h. h;
  clocks = λ s ms q i h. h;
  refusals = λ s q i h. h;
}

pub over_part : (s : Core) → Invariant s → OverKeyed s
over_part s i = i.flight.over

pub over_open : OpensWith OverKeyed
unfolding opening_controller
over_open k f = tt
