-- All pipes of a machine as what each of them knows, and what an event does to them.
use Rattle.std.specs.Prelude.{◌≡◌, ℕ, Bool, true, List, [], ◌∷◌, Option, None, Some, map, option_and_then, option_map, slice_get, slice_set, unwrap_or}
use Rattle.sr_base.specs.Layout.{LayoutView}
use Rattle.sr_base.specs.declared.packet.Packet.{Packet}
use Rattle.sr_core.specs.HeldPipe.{HeldPipe}
use Rattle.sr_law.specs.declared.line.Line.{Line}
use Rattle.sr_machine.specs.Pipe.{entered, is_idle, pipe_after, pipe_op}
use Rattle.sr_machine.specs.declared.op.Op.{Op}
use Rattle.sr_machine.specs.declared.pipe_view.PipeView.{PipeView}
use Rattle.sr_machine.specs.declared.stepped.Stepped.{Stepped}
use Rattle.sr_machine.specs.declared.stepped.Stepped.TheVariants.{Made, NotNow, Memory}

pub record HeldPipes : Type 0 where
  pub layout : LayoutView
  pub views : List PipeView

-- what the pipes know, in order
abbrev pub views_of : List HeldPipe → List PipeView
views_of pipes = map (λ h. h.view) pipes

-- each of them was made of this layout
abbrev pub AreOf : LayoutView → List HeldPipe → Type 0
AreOf l [] = Unit {0}
AreOf l (h ∷ rest) = (h.layout ≡ l) × AreOf l rest

-- the next step of the pipe of this number; none where there is no such pipe, or it is idle
abbrev pub op_at : LayoutView → ℕ → List PipeView → Option Op
op_at l p views = option_and_then (λ v. pipe_op l v v.stage) (slice_get views p)

-- the pipes after a step of this one, which answered this; none where there is no such pipe
abbrev pub after_at : LayoutView → ℕ → ℕ → List PipeView → Option (List PipeView)
after_at l p x views = option_map (λ v. slice_set views p (pipe_after l v v.stage x)) (slice_get views p)

-- the pipes once a packet has entered on this one; none where it can't
abbrev pub entered_at : LayoutView → ℕ → Packet → List PipeView → Option (List PipeView)
entered_at l p packet views =
    option_and_then (λ v. option_map (λ w. slice_set views p w) (entered l packet v)) (slice_get views p)

-- An event makes this of what there was, or can't be made now. What wasn't made changed nothing.
abbrev pub DoesTo : {A : Type 0} → Stepped → Option A → A → A → Type 0
DoesTo Made does old new = does ≡ Some new
DoesTo NotNow does old new = (does ≡ None) × (new ≡ old)
DoesTo Memory does old new = new ≡ old

-- the lines of the pipe of this number
abbrev pub lines_at : ℕ → List PipeView → List Line
lines_at p views = unwrap_or (option_map (λ v. v.lines) (slice_get views p)) []

-- the pipe of this number has no packet in hand; nor has one that isn't there
abbrev pub idle_of : Option PipeView → Bool
idle_of None = true
idle_of (Some v) = is_idle v.stage

abbrev pub is_idle_at : ℕ → List PipeView → Bool
is_idle_at p views = idle_of (slice_get views p)
