-- The steps that a controller makes one after another: each answer decides the next step, whoever has the words.
use Rattle.std.specs.Prelude.{ℕ, List, [], ◌∷◌, IsSome}
use Rattle.sr_core.specs.Making.{Made, made_before}
use Rattle.sr_machine.specs.Config.{Config}
use Rattle.sr_machine.specs.Controller.{controller_after, controller_op}
use Rattle.sr_machine.specs.declared.controller_view.ControllerView.{ControllerView}

-- what it knows after steps that answered these
abbrev pub view_after_all : Config → ControllerView → List ℕ → ControllerView
view_after_all k c [] = c
view_after_all k c (x ∷ rest) = view_after_all k (controller_after k c x) rest

-- the steps
abbrev pub steps_made : Config → ControllerView → List ℕ → List Made
steps_made k c [] = []
steps_made k c (x ∷ rest) = made_before (controller_op k c) x (steps_made k (controller_after k c x) rest)

-- each answer is that of a step
abbrev pub AreSteps : Config → ControllerView → List ℕ → Type 0
AreSteps k c [] = Unit {0}
AreSteps k c (x ∷ rest) = IsSome (controller_op k c) × AreSteps k (controller_after k c x) rest
