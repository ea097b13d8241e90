-- Turns until nothing is left to do, with the changes that are refused between them.
use Rattle.std.specs.Prelude.{◌≡◌, ℕ, ◌++◌, List, [], unwrap_or, Option, Some, None}
use Rattle.sr_core.specs.Making.{Made, ShowsSteps}
use Rattle.sr_ctl.specs.Causes.{FoundNothing, HaveNoPlan}
use Rattle.sr_ctl.specs.Steps.{steps_made}
use Rattle.sr_ctl.specs.Turned.{Turned}
use Rattle.sr_ctl.specs.declared.went.Went.{Went}
use Rattle.sr_ctl.specs.declared.went.Went.TheVariants as went
use Rattle.sr_machine.specs.Config.{Config}
use Rattle.sr_machine.specs.Settling.{Follows, More, Over, OrRefusal, awaited, ending_of, follows}
use Rattle.sr_machine.specs.Telling.{told_to_refuse}
use Rattle.sr_machine.specs.declared.controller_view.ControllerView.{ControllerView}
use Rattle.sr_machine.specs.declared.name.Name.{Name}
use Rattle.sr_machine.specs.declared.settled.Settled.{Settled}
use Rattle.sr_machine.specs.declared.settled.Settled.TheVariants as settled
use Rattle.sr_machine.specs.declared.turn.Turn.{Turn}
use Rattle.sr_machine.specs.declared.view.View.{View}
use Rattle.sr_machine.specs.declared.view.View.TheVariants.{OfController}

-- what an answer is followed by: the next turn, at once or once a change was refused; none where the turns are over
abbrev pub next_view : ControllerView → Follows → Option ControllerView
next_view c More = Some c
next_view c Over = None
next_view c OrRefusal = told_to_refuse c

-- Turns were made one after another, these are their steps, and this is known after them.
pub data Turns (k : Config) (c : ControllerView) : List Made → ControllerView → Type 0 where
  begin : Turns k c [] c
  more : (steps : List Made) (v w e : ControllerView) (t : Turn) (answers : List ℕ) → Turns k c steps v → Turned k v t w answers
      → next_view w (follows t) ≡ Some e
      → Turns k c (steps ++ steps_made k v answers) e

-- The turns are over: the last one's answer isn't followed by another. It found nothing to do, and no change can be refused.
pub record Ended (k : Config) (c : ControllerView) (r : Settled) (steps : List Made) (d : ControllerView) : Type 0 where
  pub before : List Made
  pub view : ControllerView
  pub answer : Turn
  pub answers : List ℕ
  pub turns : Turns k c before view
  pub last : Turned k view answer d answers
  pub all : steps ≡ before ++ steps_made k view answers
  pub over : next_view d (follows answer) ≡ None
  pub nothing : FoundNothing k view (steps_made k view answers) d
  pub plans : HaveNoPlan k view
  -- an update waits for a key, or nothing is left
  pub ending : r ≡ ending_of (awaited d)

-- without memory the turns so far were made whole
abbrev pub EndsSo : Config → ControllerView → Settled → List Made → ControllerView → Type 0
EndsSo k c settled.Memory steps d = Turns k c steps d
EndsSo k c r steps d = Ended k c r steps d

-- The turns were made on a board.
pub record SettledOn (k : Config) (fitted : Config → View → Type 0) (shown : (Name → ℕ) → Type 0) (c : ControllerView) (r : Settled)
    (fits_after : Config → View → Type 0) (shows_after : (Name → ℕ) → Type 0) (d : ControllerView) : Type 0 where
  pub steps : List Made
  pub ends : EndsSo k c r steps d
  pub fits : fitted k (OfController c) → fits_after k (OfController d)
  pub words : ShowsSteps shown steps shows_after

-- ---- one turn, and what follows it

-- A turn was made on a board, and a change refused after it, where this follows.
pub record WentOn (k : Config) (fitted : Config → View → Type 0) (shown : (Name → ℕ) → Type 0) (c : ControllerView)
    (o : Option ControllerView) (fits_after : Config → View → Type 0) (shows_after : (Name → ℕ) → Type 0) (d : ControllerView)
    : Type 0 where
  pub answer : Turn
  pub view : ControllerView
  pub answers : List ℕ
  pub turned : Turned k c answer view answers
  pub next : next_view view (follows answer) ≡ o
  pub here : unwrap_or o view ≡ d
  pub fits : fitted k (OfController c) → fits_after k (OfController d)
  pub words : ShowsSteps shown (steps_made k c answers) shows_after

abbrev pub GoesOn : Config → (Config → View → Type 0) → ((Name → ℕ) → Type 0) → ControllerView → Went
    → (Config → View → Type 0) → ((Name → ℕ) → Type 0) → ControllerView → Type 0
GoesOn k fitted shown c went.On fits_after shows_after d = WentOn k fitted shown c (Some d) fits_after shows_after d
GoesOn k fitted shown c went.Over fits_after shows_after d = WentOn k fitted shown c None fits_after shows_after d
GoesOn k fitted shown c went.Nowhere fits_after shows_after d =
    (d ≡ c) × (fitted k (OfController c) → fits_after k (OfController d)) × ((words : Name → ℕ) → shown words → shows_after words)
