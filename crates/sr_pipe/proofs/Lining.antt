-- A packet that leaves has its line.
use Rattle.std.proofs.Common.{◌≡◌, ◌∙◌, ℕ, ◌+◌, ◌++◌, Bool, true, false, List, [], ◌∷◌, None, refl, ap, if◌then◌else◌, arith}
use Rattle.sr_base.specs.Layout.{LayoutView}
use Rattle.sr_law.specs.declared.line.Line.{Line}
use Rattle.sr_machine.specs.Pipe.{is_idle, lines_after, packet_line}
use Rattle.sr_machine.specs.Stages.{stage_after, stage_op}
use Rattle.sr_machine.specs.declared.leg.Last.TheVariants as last
use Rattle.sr_machine.specs.declared.leg.Leg.TheVariants as leg
use Rattle.sr_machine.specs.declared.stage.Stage.{Stage}
use Rattle.sr_machine.specs.declared.stage.Stage.TheVariants as stage
use Rattle.sr_machine.specs.declared.pipe_view.PipeView.{PipeView}
use Rattle.sr_pipe.specs.Known.{left}
use Rattle.sr_pipe.specs.Progress.{HasLine, IsLast}

pub line_left : (l : LayoutView) (n x : ℕ) (s : Stage) (lines : List Line) → HasLine s lines
    → HasLine (stage_after l s x) (lines_after n s x lines)
line_left l n x stage.Idle lines h = tt
line_left l n x (stage.Enter packet) lines h = tt
line_left l n x (stage.Note packet entered) lines h = tt
line_left l n x (stage.Vip packet entered) lines h = tt
line_left l n x (stage.Fly f (leg.Look place rest)) lines h = tt
line_left l n x (stage.Fly f (leg.Hit place version)) lines h = tt
line_left l n x (stage.Fly f (leg.Filter bit rest)) lines h = tt
line_left l n x (stage.Fly f (leg.Chosen version next)) lines h = tt
line_left l n x (stage.Fly f (leg.Judged v last.Ring)) lines h = tt
line_left l n x (stage.Fly f (leg.Judged v (last.Mark bit rest))) lines h = tt
line_left l n x (stage.Fly f (leg.Judged v last.Push)) lines h = tt
line_left l n x (stage.Fly f (leg.Judged v last.Out)) lines h = (packet_line n f v x, (lines, refl))
line_left l n x (stage.Leave f) lines h = tt

-- the last step of a packet leaves its line the last one
pub line_last : (l : LayoutView) (n x : ℕ) (s : Stage) (lines : List Line) → HasLine s lines → is_idle s ≡ false
    → is_idle (stage_after l s x) ≡ true → (line : Line) × IsLast line (lines_after n s x lines)
line_last l n x stage.Idle lines h b e = cc
line_last l n x (stage.Enter packet) lines h b e = cc
line_last l n x (stage.Note packet entered) lines h b e = cc
line_last l n x (stage.Vip packet entered) lines h b e = cc
line_last l n x (stage.Fly f (leg.Look place rest)) lines h b e = cc
line_last l n x (stage.Fly f (leg.Hit place version)) lines h b e = cc
line_last l n x (stage.Fly f (leg.Filter bit rest)) lines h b e = cc
line_last l n x (stage.Fly f (leg.Chosen version next)) lines h b e = cc
line_last l n x (stage.Fly f (leg.Judged v last.Ring)) lines h b e = cc
line_last l n x (stage.Fly f (leg.Judged v (last.Mark bit rest))) lines h b e = cc
line_last l n x (stage.Fly f (leg.Judged v last.Push)) lines h b e = cc
line_last l n x (stage.Fly f (leg.Judged v last.Out)) lines h b e = cc
line_last l n x (stage.Leave f) lines h b e = h

-- a pipe that isn't idle has a next step
pub busy_steps : (l : LayoutView) (n p : ℕ) (s : Stage) → is_idle s ≡ false → stage_op l n p s ≡ None → ⊥
busy_steps l n p stage.Idle b e = cc
busy_steps l n p (stage.Enter packet) b e = cc
busy_steps l n p (stage.Note packet entered) b e = cc
busy_steps l n p (stage.Vip packet entered) b e = cc
busy_steps l n p (stage.Fly f leg) b e = cc
busy_steps l n p (stage.Leave f) b e = cc

pub idle_is : (s : Stage) → is_idle s ≡ true → s ≡ stage.Idle
idle_is stage.Idle e = refl
idle_is (stage.Enter packet) e = cc
idle_is (stage.Note packet entered) e = cc
idle_is (stage.Vip packet entered) e = cc
idle_is (stage.Fly f leg) e = cc
idle_is (stage.Leave f) e = cc

count_is : (stored : Bool) (n : ℕ) → n + (if stored then 1 else 0) ≡ (if stored then n + 1 else n)
count_is true n = refl
count_is false n = omega arith

-- the view that is left, where the stage is said to be idle and the report is added
pub left_is : (v w : PipeView) (stored : Bool) (line : Line) → is_idle v.stage ≡ true
    → w ≡ record v { pushed = v.pushed + (if stored then 1 else 0); lines = v.lines ++ line ∷ [] } → w ≡ left v stored line
left_is v w stored line i e =
    e ∙ ap (λ (n : ℕ). record v { pushed = n; lines = v.lines ++ line ∷ [] }) (count_is stored v.pushed)
    ∙ ap (λ (s : Stage). record (left v stored line) { stage = s }) (idle_is v.stage i)
