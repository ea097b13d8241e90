-- The machine as it is held: its words as a list, and what each actor knows; and which state of the machine that is.
use Rattle.std.specs.Prelude.{◌≡◌, ℕ, ◌<◌, List, length, Option, None, Some}
use Rattle.sr_core.specs.PlainWords.{ShowsWords}
use Rattle.sr_law.specs.declared.line.Line.{Line}
use Rattle.sr_core.specs.HeldPipes.{lines_at}
use Rattle.sr_core.specs.declared.controlled.Controlled.{Controlled}
use Rattle.sr_core.specs.declared.controlled.Controlled.TheVariants as told
use Rattle.sr_machine.specs.Config.{Config}
use Rattle.sr_machine.specs.Controller.{controller_op}
use Rattle.sr_machine.specs.Core.{Core}
use Rattle.sr_machine.specs.Turning.{controlled, turn_of_op}
use Rattle.sr_machine.specs.declared.actor.Actor.{Actor}
use Rattle.sr_machine.specs.declared.actor.Actor.TheVariants as actor
use Rattle.sr_machine.specs.declared.controller_view.ControllerView.{ControllerView}
use Rattle.sr_machine.specs.declared.name.Name.{Name}
use Rattle.sr_machine.specs.declared.op.Op.{Op}
use Rattle.sr_machine.specs.declared.pipe_view.PipeView.{PipeView}
use Rattle.sr_machine.specs.declared.stepped.Stepped.{Stepped}
use Rattle.sr_machine.specs.declared.stepped.Stepped.TheVariants.{Made, NotNow, Memory}
use Rattle.sr_machine.specs.declared.turn.Turn.{Turn}

pub record HeldCore : Type 0 where
  pub config : Config
  pub words : List ℕ
  pub pipes : List PipeView
  pub controller : ControllerView

-- the state that it stands for, where the words are these
abbrev pub state_of : HeldCore → (Name → ℕ) → Core
state_of h words = record { config = h.config; words = words; pipes = h.pipes; controller = h.controller }

-- it stands for this state: each word of the layout is the one of its name
abbrev pub Shows : HeldCore → Core → Type 0
Shows h s = (words : Name → ℕ) × ShowsWords h.config.layout h.words words × (s ≡ state_of h words)

-- An event answers what it can do in the state: made, it leads to the state after it; what can't be made now, and what there was no
-- memory for, leaves everything as it was.
abbrev pub StepsTo : Stepped → Option Core → HeldCore → HeldCore → Type 0
StepsTo Made (Some t) old new = Shows new t
StepsTo Made None old new = ⊥
StepsTo NotNow (Some t) old new = ⊥
StepsTo NotNow None old new = new ≡ old
StepsTo Memory does old new = new ≡ old

-- the lines of an actor so far
abbrev pub lines_by : Actor → HeldCore → List Line
lines_by (actor.Pipe p) h = lines_at p h.pipes
lines_by actor.Controller h = h.controller.lines

-- the actor is the controller, or a pipe that is there
abbrev pub IsActorOf : HeldCore → Actor → Type 0
IsActorOf h (actor.Pipe p) = p < length h.pipes
IsActorOf h actor.Controller = Unit {0}

-- What a step of the controller answers: the state after it, and what it ended, if it ended an act. What it had no step or no memory
-- for leaves everything as it was.
abbrev pub MakesStep : Option Turn → Core → Option Op → HeldCore → Type 0
MakesStep end s None new = ⊥
MakesStep end s (Some o) new = (turn_of_op s o ≡ end) × Shows new (controlled s o)

abbrev pub ControlsTo : Controlled → Core → HeldCore → HeldCore → Type 0
ControlsTo told.Made s old new = MakesStep None s (controller_op s.config s.controller) new
ControlsTo (told.Ended t) s old new = MakesStep (Some t) s (controller_op s.config s.controller) new
ControlsTo told.NotNow s old new = (controller_op s.config s.controller ≡ None) × (new ≡ old)
ControlsTo told.Memory s old new = new ≡ old
