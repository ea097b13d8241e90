-- Ticks: every tick in a view was drawn once. Each view has lines of its own kind, which rise; a packet's tick is after its pipe's lines, and a
-- sweep's after the controller's; and few enough were drawn that none wraps.
use Rattle.std.specs.List.{AllByRecursion}
use Rattle.std.specs.Prelude.{◌≡◌, ℕ, ◌+◌, ◌^◌, ◌<◌, ◌≤◌, true, ◌&&◌, List, [], ◌∷◌, length, if◌then◌else◌, nat_lt, ◌==◌, sum_by}
use Rattle.sr_inv_facts.specs.Flying.{OnEntered}
use Rattle.sr_inv_facts.specs.InWords.{is_busy}
use Rattle.sr_inv_facts.specs.Readings.{EachPipe}
use Rattle.sr_law.specs.Rising.{has_two_ticks}
use Rattle.sr_law.specs.Ticks.{is_controller, out_of, start_of}
use Rattle.sr_law.specs.declared.line.Line.{Line}
use Rattle.sr_machine.specs.Core.{Core}
use Rattle.sr_machine.specs.Deciding.{words_taken}
use Rattle.sr_machine.specs.declared.controller_view.ControllerView.{ControllerView}
use Rattle.sr_machine.specs.declared.job.Job.{Job}
use Rattle.sr_machine.specs.declared.pipe_view.PipeView.{PipeView}
use Rattle.sr_machine.specs.declared.stage.Stage.{Stage}
use Rattle.sr_machine.specs.declared.stage.Stage.TheVariants.{Note, Vip, Fly}
use Rattle.sr_machine.specs.declared.draw.Draw.TheVariants as draw
use Rattle.sr_machine.specs.declared.job.Job.TheVariants as job
use Rattle.sr_law.specs.declared.line.Line.TheVariants as line
use Rattle.sr_machine.specs.declared.name.Name.TheVariants as name

-- ---- how often a tick stands in the views

abbrev pub same : ℕ → ℕ → ℕ
same t n = if t == n then 1 else 0

abbrev pub line_times : ℕ → Line → ℕ
line_times t l = same t (out_of l) + (if has_two_ticks l then same t (start_of l) else 0)

abbrev pub lines_times : ℕ → List Line → ℕ
lines_times t lines = sum_by (line_times t) lines

abbrev pub stage_times : ℕ → Stage → ℕ
stage_times t (Note packet entered) = same t entered
stage_times t (Vip packet entered) = same t entered
stage_times t (Fly f leg) = same t f.entered
stage_times t stage = 0

abbrev pub pipe_times : ℕ → PipeView → ℕ
pipe_times t v = stage_times t v.stage + lines_times t v.lines

abbrev pub job_times : ℕ → Job → ℕ
job_times t (job.Pass grace pipe w) = same t grace
job_times t (job.Hit from ms key place taken) = same t from
job_times t (job.Draw (draw.Swept from ms)) = same t from
job_times t j = 0

abbrev pub times : ℕ → List PipeView → ControllerView → ℕ
times t pipes c = sum_by (pipe_times t) pipes + (job_times t c.job + lines_times t c.lines)

-- 1 for a tick that was drawn: from 1 on, and below the next one
abbrev pub below : ℕ → ℕ → ℕ
below t next = if nat_lt 0 t && nat_lt t next then 1 else 0

-- ---- lines of a view

-- the line is a packet's, of this pipe
abbrev pub IsOfPipe : ℕ → Line → Type 0
IsOfPipe pipe (line.Packet number entered out at key kind v) = at ≡ pipe
IsOfPipe pipe l = ⊥

-- each line is out after the ones before it
abbrev pub Rise : ℕ → List Line → Type 0
Rise low [] = Unit {0}
Rise low (l ∷ rest) = (low < out_of l) × Rise (out_of l) rest

-- each line is out before this tick
abbrev pub AllOutBefore : ℕ → List Line → Type 0
AllOutBefore tick lines = AllByRecursion (λ l. out_of l < tick) lines

-- a packet entered after its pipe's lines were out, and fewer than 2^32 packets came
pub record PipeInTime (pipe : ℕ) (v : PipeView) : Type 0 where
  pub own : AllByRecursion (IsOfPipe pipe) v.lines
  pub rise : Rise 0 v.lines
  pub entered : OnEntered v.stage (λ tick. AllOutBefore tick v.lines)
  pub few : length v.lines + is_busy v.stage < 2 ^ 32

-- of the tick at which a sweep began
abbrev pub OnSweep : Job → (ℕ → Type 0) → Type 0
OnSweep (job.Hit from ms key place taken) P = P from
OnSweep (job.Draw (draw.Swept from ms)) P = P from
OnSweep j P = Unit {0}

-- a sweep began after the controller's lines were out
pub record ControllerInTime (c : ControllerView) : Type 0 where
  pub own : AllByRecursion (λ l. is_controller l ≡ true) c.lines
  pub rise : Rise 0 c.lines
  pub from : OnSweep c.job (λ tick. AllOutBefore tick c.lines)
  pub drawn : c.drawn ≤ 2 ^ 56
  pub taken : words_taken c.rings ≤ 2 ^ 56

pub record InTicks (s : Core) : Type 0 where
  pub once : (t : ℕ) → times t s.pipes s.controller ≤ below t (s.words name.Tick)
  pub pipes : EachPipe PipeInTime s.pipes
  pub controller : ControllerInTime s.controller
