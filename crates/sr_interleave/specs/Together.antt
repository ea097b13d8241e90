-- The plain words with the pipes and the controller on them, and which machine that is.
use Rattle.std.specs.Prelude.{◌≡◌, ℕ, ◌+◌, List, [], ◌∷◌, length}
use Rattle.sr_base.specs.Layout.{LayoutView}
use Rattle.sr_core.specs.HeldCore.{HeldCore}
use Rattle.sr_core.specs.HeldPipe.{HeldPipe}
use Rattle.sr_core.specs.HeldPipes.{views_of}
use Rattle.sr_core.specs.PlainWords.{HeldWords}
use Rattle.sr_ctl.specs.SeenController.{SeenController}

-- A pipe was made of this layout, and has this number.
pub record IsPipe (l : LayoutView) (n : ℕ) (p : HeldPipe) : Type 0 where
  pub layout : p.layout ≡ l
  pub number : p.view.number ≡ n

-- these are such pipes, from this number on
abbrev pub ArePipes : LayoutView → ℕ → List HeldPipe → Type 0
ArePipes l from [] = Unit {0}
ArePipes l from (p ∷ rest) = IsPipe l from p × ArePipes l (from + 1) rest

-- The pipes are those of the words' layout, in order of their numbers.
pub record AreOn (board : HeldWords) (pipes : List HeldPipe) : Type 0 where
  pub count : length pipes ≡ board.layout.shape.pipes
  pub each : ArePipes board.layout 0 pipes

-- And the controller was made of it.
pub record AreTogether (board : HeldWords) (pipes : List HeldPipe) (c : SeenController) : Type 0 where
  pub on : AreOn board pipes
  pub controller : c.config.layout ≡ board.layout

-- the machine that they are
abbrev pub held : HeldWords → List HeldPipe → SeenController → HeldCore
held board pipes c = record { config = c.config; words = board.words; pipes = views_of pipes; controller = c.view }
