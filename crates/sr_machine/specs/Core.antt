-- The whole machine: a state, what an event makes of it, and runs.
use Rattle.std.specs.Prelude.{◌≡◌, ℕ, ◌++◌, nat_le, List, [], ◌∷◌, slice_get, slice_set, option_map, option_and_then, reverse, Option, Some, if◌then◌else◌}
use Rattle.sr_base.specs.declared.packet.Packet.{Packet}
use Rattle.sr_law.specs.Ticks.{out_of}
use Rattle.sr_law.specs.declared.line.Line.{Line}
use Rattle.sr_machine.specs.Config.{Config}
use Rattle.sr_machine.specs.Controller.{controller_after, controller_op}
use Rattle.sr_machine.specs.Opening.{opening_controller, opening_pipes, opening_words}
use Rattle.sr_machine.specs.Ops.{op_answer, op_name, op_words}
use Rattle.sr_machine.specs.Pipe.{entered, pipe_after, pipe_op}
use Rattle.sr_machine.specs.Telling.{told_time, told_to_refuse}
use Rattle.sr_machine.specs.declared.actor.Actor.{Actor}
use Rattle.sr_machine.specs.declared.actor.Actor.TheVariants as actor
use Rattle.sr_machine.specs.declared.controller_view.ControllerView.{ControllerView}
use Rattle.sr_machine.specs.declared.event.Event.{Event}
use Rattle.sr_machine.specs.declared.event.Event.TheVariants.{Enter, Due, Refuse, Step}
use Rattle.sr_machine.specs.declared.name.Name.{Name}
use Rattle.sr_machine.specs.declared.op.Op.{Op}
use Rattle.sr_machine.specs.declared.pipe_view.PipeView.{PipeView}
use Rattle.sr_machine.specs.declared.view.View.{View}
use Rattle.sr_machine.specs.declared.view.View.TheVariants.{OfPipe, OfController}

-- A state: what it was made for, the shared words, and what each actor knows.
pub record Core : Type 0 where
  pub config : Config
  pub words : Name → ℕ
  pub pipes : List PipeView
  pub controller : ControllerView

-- ---- an actor

-- its next atomic step; none of an idle pipe
abbrev pub view_op : Config → View → Option Op
view_op k (OfPipe v) = pipe_op k.layout v v.stage
view_op k (OfController c) = controller_op k c

-- what it knows after the step, which answered this
abbrev pub view_after : Config → View → ℕ → View
view_after k (OfPipe v) x = OfPipe (pipe_after k.layout v v.stage x)
view_after k (OfController c) x = OfController (controller_after k c x)

-- what an actor of a state knows; none where there is no such pipe
abbrev pub view_at : Core → Actor → Option View
view_at s (actor.Pipe p) = option_map OfPipe (slice_get s.pipes p)
view_at s actor.Controller = Some (OfController s.controller)

-- an actor knows this
abbrev pub with_view : Core → Actor → View → Core
with_view s (actor.Pipe p) (OfPipe v) = record s { pipes = slice_set s.pipes p v }
with_view s actor.Controller (OfController c) = record s { controller = c }
with_view s a v = s

-- ---- an event

-- the state after an actor's step
abbrev pub made : Core → Actor → View → Op → Core
made s a v o = with_view (record s { words = op_words s.words o }) a (view_after s.config v (op_answer o (s.words (op_name o))))

-- an actor that has a step makes it
abbrev pub stepped : Core → Actor → View → Option Core
stepped s a v = option_map (made s a v) (view_op s.config v)

-- a packet enters on a pipe
abbrev pub enters : Core → ℕ → Packet → PipeView → Option Core
enters s p packet v = option_map (λ w. with_view s (actor.Pipe p) (OfPipe w)) (entered s.config.layout packet v)

-- the controller was told something
abbrev pub told : Core → Option ControllerView → Option Core
told s c = option_map (λ d. with_view s actor.Controller (OfController d)) c

-- the state after an event; none where it can't be made now
abbrev pub step_event : Event → Core → Option Core
step_event (Enter p packet) s = option_and_then (enters s p packet) (slice_get s.pipes p)
step_event (Due ms) s = told s (told_time ms s.controller)
step_event Refuse s = told s (told_to_refuse s.controller)
step_event (Step a) s = option_and_then (stepped s a) (view_at s a)

-- ---- a run

-- where the events lead, each of which can be made
abbrev pub run : List Event → Core → Option Core
run [] s = Some s
run (e ∷ rest) s = option_and_then (run rest) (step_event e s)

abbrev pub opening : Config → Core
opening k = record { config = k; words = opening_words k; pipes = opening_pipes k; controller = opening_controller k }

-- some events lead to the state from the beginning
abbrev pub Reaches : Config → Core → Type 0
Reaches k s = (events : List Event) × (run events (opening k) ≡ Some s)

-- ---- the lines

-- a line comes before those with a lower tick, so that the newest stands first
abbrev pub put_line : Line → List Line → List Line
put_line l [] = l ∷ []
put_line l (other ∷ rest) = if nat_le (out_of other) (out_of l) then l ∷ other ∷ rest else (other ∷ put_line l rest)

abbrev pub newest_first : List Line → List Line
newest_first [] = []
newest_first (l ∷ rest) = put_line l (newest_first rest)

abbrev pub pipe_lines : List PipeView → List Line
pipe_lines [] = []
pipe_lines (v ∷ rest) = v.lines ++ pipe_lines rest

-- the lines of a state, the newest first
abbrev pub printed : Core → List Line
printed s = newest_first (pipe_lines s.pipes ++ s.controller.lines)

-- and in the order of their ticks
abbrev pub lines_of : Core → List Line
lines_of s = reverse (printed s)
