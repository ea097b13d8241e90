-- A turn of the controller as it is made: step by step, up to the one that ends its act.
use Rattle.std.specs.Prelude.{ℕ, zero, suc, Option, None, Some, unwrap_or}
use Rattle.sr_machine.specs.Controller.{controller_op}
use Rattle.sr_machine.specs.Core.{Core, step_event}
use Rattle.sr_machine.specs.Turning.{controlled, most_steps, turn_of_op}
use Rattle.sr_machine.specs.declared.event.Event.{Event}
use Rattle.sr_machine.specs.declared.op.Op.{Op}
use Rattle.sr_machine.specs.declared.turn.Turn.{Turn}

-- the state after an event; one that can't be made changes nothing
abbrev pub after : Event → Core → Core
after e s = unwrap_or (step_event e s) s

-- What steps of the controller come to: what the last of them ended, if it ended an act, and the state then.
pub record Turned : Type 0 where
  pub answer : Option Turn
  pub state : Core

-- the step ended the turn with this answer, or the turn goes on
abbrev pub ended_or : Core → Option Turn → Turned → Turned
ended_or s (Some t) rest = record { answer = Some t; state = s }
ended_or s None rest = rest

-- the controller has this step, or none, and goes on with the rest of the turn
abbrev pub turn_on : Core → (Core → Turned) → Option Op → Turned
turn_on s rest None = record { answer = None; state = s }
turn_on s rest (Some o) = ended_or (controlled s o) (turn_of_op s o) (rest (controlled s o))

-- a turn of so many steps at most
abbrev pub turn_in : ℕ → Core → Turned
turn_in zero s = record { answer = None; state = s }
turn_in (suc n) s = turn_on s (turn_in n) (controller_op s.config s.controller)

-- a turn
abbrev pub turn_of : Core → Turned
turn_of s = turn_in (most_steps s.config.layout) s
