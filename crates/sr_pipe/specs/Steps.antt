-- The steps that a pipe makes one after the other: each answer decides the next step, whoever has the words.
use Rattle.std.specs.Prelude.{◌≡◌, ℕ, false, List, [], ◌∷◌}
use Rattle.sr_base.specs.Layout.{LayoutView}
use Rattle.sr_core.specs.Making.{Made, made_before}
use Rattle.sr_machine.specs.Pipe.{is_idle, pipe_after, pipe_op}
use Rattle.sr_machine.specs.declared.pipe_view.PipeView.{PipeView}

-- what a pipe knows after steps that answered these
abbrev pub view_after_all : LayoutView → PipeView → List ℕ → PipeView
view_after_all l v [] = v
view_after_all l v (x ∷ rest) = view_after_all l (pipe_after l v v.stage x) rest

-- the steps
abbrev pub steps_made : LayoutView → PipeView → List ℕ → List Made
steps_made l v [] = []
steps_made l v (x ∷ rest) = made_before (pipe_op l v v.stage) x (steps_made l (pipe_after l v v.stage x) rest)

-- each answer is that of a step: the pipe is idle before none of them
abbrev pub AreSteps : LayoutView → PipeView → List ℕ → Type 0
AreSteps l v [] = Unit {0}
AreSteps l v (x ∷ rest) = (is_idle v.stage ≡ false) × AreSteps l (pipe_after l v v.stage x) rest
