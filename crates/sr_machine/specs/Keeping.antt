-- What a fact about states owes so that every event keeps it: one obligation for each form of step, with all tests decided, and
-- for each telling.
use Rattle.std.specs.Prelude.{◌≡◌, ℕ, ◌+◌, ◌^◌, nat_lt, true, length, slice_get, slice_set, Option, Some, None}
use Rattle.sr_base.specs.declared.packet.Packet.{Packet}
use Rattle.sr_machine.specs.Core.{Core}
use Rattle.sr_machine.specs.Deciding.{in_bounds}
use Rattle.sr_machine.specs.Jobs.{job_after, job_op}
use Rattle.sr_machine.specs.Ops.{op_answer, op_name, op_words}
use Rattle.sr_machine.specs.Pipe.{has_vip, is_idle, pipe_after, pipe_op}
use Rattle.sr_machine.specs.Starting.{begun}
use Rattle.sr_machine.specs.Telling.{is_no_earlier, may_refuse}
use Rattle.sr_machine.specs.declared.event.Event.{Event}
use Rattle.sr_machine.specs.declared.event.Event.TheVariants as event
use Rattle.sr_machine.specs.declared.event.Event.TheVariants.{Due, Refuse, Step}
use Rattle.sr_machine.specs.declared.job.Job.{Job}
use Rattle.sr_machine.specs.declared.op.Op.{Op}
use Rattle.sr_machine.specs.declared.pipe_view.PipeView.{PipeView}
use Rattle.sr_machine.specs.declared.stage.Stage.{Stage}
use Rattle.sr_machine.specs.declared.stage.Stage.TheVariants.{Enter}

-- the state after the step of a pipe at this stage
abbrev pub stage_core : Core → ℕ → PipeView → Stage → Op → Core
stage_core s p v stage o = record s {
  words = op_words s.words o;
  pipes = slice_set s.pipes p (pipe_after s.config.layout v stage (op_answer o (s.words (op_name o))));
}

-- the state in which the controller has begun its act
abbrev pub begun_core : Core → Core
begun_core s = record s { controller = begun s.config s.controller }

-- the state after the step of the controller, which has this job
abbrev pub job_core : Core → Job → Op → Core
job_core s j o = record s {
  words = op_words s.words o;
  controller = job_after s.config s.controller j (op_answer o (s.words (op_name o)));
}

-- the fact after this step of a pipe, if there is one
abbrev pub AfterStage : (Core → Type 0) → Core → ℕ → PipeView → Stage → Option Op → Type 0
AfterStage Fact s p v stage None = Unit {0}
AfterStage Fact s p v stage (Some o) = Fact (stage_core s p v stage o)

-- the fact after this step of the controller, if there is one
abbrev pub AfterJob : (Core → Type 0) → Core → Job → Option Op → Type 0
AfterJob Fact s j None = Unit {0}
AfterJob Fact s j (Some o) = Fact (job_core s j o)

-- every packet that enters is one of these
abbrev pub Brings : (Packet → Type 0) → Event → Type 0
Brings Allowed (event.Enter p packet) = Allowed packet
Brings Allowed (Due ms) = Unit {0}
Brings Allowed Refuse = Unit {0}
Brings Allowed (Step actor) = Unit {0}

-- What is owed, where the base holds of the state before, and each packet that enters is an allowed one. The controller's steps are
-- asked of states in which it has begun.
pub record Keeps (Allowed : Packet → Type 0) (Base Fact : Core → Type 0) : Type 0 where
  pub stages : (s : Core) (p : ℕ) (v : PipeView) (stage : Stage) → slice_get s.pipes p ≡ Some v → v.stage ≡ stage → Base s
      → Fact s
      → AfterStage Fact s p v stage (pipe_op s.config.layout v stage)
  pub begins : (s : Core) → Base s → Fact s → Fact (begun_core s)
  pub jobs : (s : Core) (j : Job) → s.controller.job ≡ j → in_bounds s.controller ≡ true → Base s → Fact s
      → AfterJob Fact s j (job_op s.config s.controller j)
  pub enters : (s : Core) (p : ℕ) (v : PipeView) (packet : Packet) → slice_get s.pipes p ≡ Some v → is_idle v.stage ≡ true
      → has_vip s.config.layout packet ≡ true → nat_lt (length v.lines + 1) (2 ^ 32) ≡ true → Allowed packet → Base s
      → Fact s
      → Fact (record s { pipes = slice_set s.pipes p (record v { stage = Enter packet }) })
  pub clocks : (s : Core) (ms : ℕ) → is_no_earlier s.controller.clock ms ≡ true → Base s → Fact s
      → Fact (record s { controller = record s.controller { clock = Some ms } })
  pub refusals : (s : Core) → may_refuse s.controller ≡ true → Base s → Fact s
      → Fact (record s { controller = record s.controller { refusing = true } })
