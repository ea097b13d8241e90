-- What is known of a board before and after a call, and what steps of a pipe make of it.
use Rattle.std.specs.Prelude.{◌≡◌, ℕ, ◌+◌, ◌++◌, Bool, List, [], ◌∷◌, if◌then◌else◌}
use Rattle.sr_base.specs.Layout.{LayoutView}
use Rattle.sr_core.specs.HeldPipe.{HeldPipe}
use Rattle.sr_law.specs.declared.line.Line.{Line}
use Rattle.sr_machine.specs.Boards.{Beside}
use Rattle.sr_machine.specs.Config.{Config}
use Rattle.sr_machine.specs.declared.name.Name.{Name}
use Rattle.sr_machine.specs.declared.pipe_view.PipeView.{PipeView}
use Rattle.sr_machine.specs.declared.stage.Stage.{Stage}
use Rattle.sr_machine.specs.declared.stage.Stage.TheVariants.{Idle}
use Rattle.sr_machine.specs.declared.view.View.{View}
use Rattle.sr_machine.specs.declared.view.View.TheVariants.{OfPipe}
use Rattle.sr_core.specs.Making.{ShowsSteps}
use Rattle.sr_pipe.specs.Steps.{AreSteps, steps_made, view_after_all}

pub record Known : Type 1 where
  -- the views that it fits
  pub fits : Config → View → Type 0
  -- that the words are these
  pub shows : (Name → ℕ) → Type 0
  -- what it belongs to, and what it holds beside its actor's view
  pub beside : Beside
  -- that it rests
  pub rests : Type 0

abbrev pub known : (Config → View → Type 0) → ((Name → ℕ) → Type 0) → Beside → Type 0 → Known
known fits shows beside rests = record { fits = fits; shows = shows; beside = beside; rests = rests }

-- for machines of this layout the board fits the one view before and the other one after
abbrev pub FitsThen : LayoutView → Known → PipeView → Known → PipeView → Type 0
FitsThen l old v new w = (k : Config) → k.layout ≡ l → old.fits k (OfPipe v) → new.fits k (OfPipe w)

-- A board is this pipe's: it has the pipe's layout, and fits what the pipe knows.
pub record IsFor (fits : Config → View → Type 0) (beside : Beside) (pipe : HeldPipe) : Type 0 where
  pub layout : beside.layout ≡ pipe.layout
  pub view : (k : Config) × (k.layout ≡ pipe.layout) × fits k (OfPipe pipe.view)

-- The pipe's steps that answered these were made on the board, and no others; they lead from one view to another.
pub record Leads (l : LayoutView) (old : Known) (v : PipeView) (answers : List ℕ) (new : Known) (w : PipeView) : Type 0 where
  pub view : view_after_all l v answers ≡ w
  pub each : AreSteps l v answers
  pub fits : FitsThen l old v new w
  pub words : ShowsSteps old.shows (steps_made l v answers) new.shows

-- Some of the pipe's steps lead from one view to another. The board belongs where it did, holds what it held, and rests if it did.
pub record Goes (l : LayoutView) (old : Known) (v : PipeView) (new : Known) (w : PipeView) : Type 0 where
  pub answers : List ℕ
  pub leads : Leads l old v answers new w
  pub beside : new.beside ≡ old.beside
  pub rests : old.rests → new.rests

-- ---- a pipe in the middle of a packet

-- what it knows is as before, but for its stage
abbrev pub staged : PipeView → Stage → PipeView
staged v stage = record v { stage = stage }

-- and for a report, where it stored one
abbrev pub reported : PipeView → Bool → Stage → PipeView
reported v stored stage = record v { stage = stage; pushed = if stored then v.pushed + 1 else v.pushed }

-- and for its line, where it has left
abbrev pub left : PipeView → Bool → Line → PipeView
left v stored line = record v {
  stage = Idle;
  pushed = if stored then v.pushed + 1 else v.pushed;
  lines = v.lines ++ line ∷ [];
}

-- the pipe at this stage
abbrev pub at_stage : HeldPipe → Stage → HeldPipe
at_stage pipe stage = record pipe { view = staged pipe.view stage }
