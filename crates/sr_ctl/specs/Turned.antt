-- What a turn makes of a controller and its board.
use Rattle.std.specs.Prelude.{◌≡◌, ℕ, ◌≤◌, List, [], length, IsSome, Option, Some}
use Rattle.sr_core.specs.Making.{ShowsSteps, made_before}
use Rattle.sr_ctl.specs.Causes.{HasCause}
use Rattle.sr_ctl.specs.Steps.{AreSteps, steps_made, view_after_all}
use Rattle.sr_machine.specs.Config.{Config}
use Rattle.sr_machine.specs.Controller.{controller_after, controller_op}
use Rattle.sr_machine.specs.Starting.{begun}
use Rattle.sr_machine.specs.Turning.{most_steps, turn_at, turn_by}
use Rattle.sr_machine.specs.declared.controller_view.ControllerView.{ControllerView}
use Rattle.sr_machine.specs.declared.name.Name.{Name}
use Rattle.sr_machine.specs.declared.turn.Turn.{Turn}
use Rattle.sr_machine.specs.declared.turn.Turn.TheVariants as turn
use Rattle.sr_machine.specs.declared.view.View.{View}
use Rattle.sr_machine.specs.declared.view.View.TheVariants.{OfController}

-- A controller that knew this has made a turn: the steps of the first act that applies, up to the one that ends it, as it answers.
pub record Turned (k : Config) (c : ControllerView) (t : Turn) (d : ControllerView) (answers : List ℕ) : Type 0 where
  -- the steps are the controller's, each its next one
  pub each : AreSteps k c answers
  pub view : view_after_all k c answers ≡ d
  -- they are those of the act, to its end
  pub act : turn_by k c answers ≡ Some (t, d)
  pub few : length answers ≤ most_steps k.layout
  -- the answer has its cause in the words that were loaded
  pub cause : HasCause k c (steps_made k c answers) t d

-- A turn was made on a board: for some answers, which are those of the words where these are told.
pub record TurnedOn (k : Config) (fitted : Config → View → Type 0) (shown : (Name → ℕ) → Type 0) (c : ControllerView) (t : Turn)
    (fits_after : Config → View → Type 0) (shows_after : (Name → ℕ) → Type 0) (d : ControllerView) : Type 0 where
  pub answers : List ℕ
  pub turned : Turned k c t d answers
  pub fits : fitted k (OfController c) → fits_after k (OfController d)
  pub words : ShowsSteps shown (steps_made k c answers) shows_after

-- what a turn that answers this has made; one that found no memory has made nothing
abbrev pub Makes : Config → (Config → View → Type 0) → ((Name → ℕ) → Type 0) → ControllerView → Turn
    → (Config → View → Type 0) → ((Name → ℕ) → Type 0) → ControllerView → Type 0
Makes k fits shows c turn.Memory fits_after shows_after d = d ≡ c
Makes k fits shows c t fits_after shows_after d = TurnedOn k fits shows c t fits_after shows_after d

-- ---- one step

-- A step was made on a board, and answered this: what it ends, and what is known then.
pub record StepMade (k : Config) (fitted : Config → View → Type 0) (shown : (Name → ℕ) → Type 0) (c : ControllerView) (x : ℕ)
    (end : Option Turn) (fits_after : Config → View → Type 0) (shows_after : (Name → ℕ) → Type 0) (d : ControllerView) : Type 0 where
  pub there : IsSome (controller_op k c)
  pub view : controller_after k c x ≡ d
  pub ends : turn_at k (begun k c) (begun k c).job x ≡ end
  pub fits : fitted k (OfController c) → fits_after k (OfController d)
  pub words : ShowsSteps shown (made_before (controller_op k c) x []) shows_after
