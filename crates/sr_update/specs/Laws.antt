-- What graces and numbers keep to over many calls.
use Rattle.std.specs.Prelude.{◌≡◌, ℕ, ◌≤◌, ◌⊎◌, Bool, ◌==◌, ◌&&◌, List, [], ◌∷◌, ◌++◌, Option, Some, None, if◌then◌else◌}
use Rattle.sr_update.specs.declared.number_state.NumberState.{NumberState}
use Rattle.sr_update.specs.declared.number_state.NumberState.TheVariants.{Free, Current, Draining}
use Rattle.sr_update.specs.Grace.{GraceView, grace_from, after_note}
use Rattle.sr_update.specs.Numbers.{NumberRows, state_of, with_state, current_of}

-- ---- graces

-- notes were looked at, one after another
abbrev pub after_notes : GraceView → List ℕ → GraceView
after_notes g [] = g
after_notes g (note ∷ notes) = after_notes (after_note g note) notes

-- the note of a pipe that is at rest, or that took up its packet no earlier than the tick
abbrev pub HasPassed : ℕ → ℕ → Type 0
HasPassed tick note = (note ≡ 0) ⊎ (tick ≤ note)

-- one of the notes was looked at when this pipe was the next one, and the pipe had passed by it
pub record SeenPassed (tick pipes : ℕ) (notes : List ℕ) (pipe : ℕ) : Type 0 where
  pub before : List ℕ
  pub note : ℕ
  pub after : List ℕ
  pub among : notes ≡ before ++ note ∷ after
  pub its : (after_notes (grace_from tick pipes) before).next ≡ pipe
  pub passed : HasPassed tick note

-- ---- an update

-- what an update begins with: it gives a Free number, and replaces the Current one
pub record IsGiving (rows : NumberRows) (vip number replaced : ℕ) : Type 0 where
  pub free : state_of vip number rows ≡ Some Free
  pub current : current_of vip rows ≡ Some replaced

-- the numbers while it is on
abbrev pub rows_in_update : ℕ → ℕ → NumberRows → NumberRows
rows_in_update vip number rows = with_state vip number Current rows

-- the numbers once it is over
abbrev pub rows_after_update : ℕ → ℕ → ℕ → NumberRows → NumberRows
rows_after_update vip number replaced rows = with_state vip replaced Draining (rows_in_update vip number rows)

-- two numbers of a virtual address have these states
pub record HaveStates (rows : NumberRows) (vip number : ℕ) (state : NumberState) (other : ℕ) (its : NumberState) : Type 0 where
  pub one : state_of vip number rows ≡ Some state
  pub two : state_of vip other rows ≡ Some its

-- ---- numbers

-- what happens to a number of a virtual address: it is given, an update that replaced it ends, it is released
pub data NumberAct : Type 0 where
  Gave : ℕ → ℕ → NumberAct
  Ended : ℕ → ℕ → NumberAct
  Released : ℕ → ℕ → NumberAct

-- the numbers after an act
abbrev pub acted : NumberAct → NumberRows → NumberRows
acted (Gave vip number) rows = with_state vip number Current rows
acted (Ended vip number) rows = with_state vip number Draining rows
acted (Released vip number) rows = with_state vip number Free rows

-- the numbers after some acts, one after another
abbrev pub all_acted : List NumberAct → NumberRows → NumberRows
all_acted [] rows = rows
all_acted (act ∷ acts) rows = all_acted acts (acted act rows)

-- the act is on this number of this virtual address
abbrev pub is_on : ℕ → ℕ → NumberAct → Bool
is_on vip number (Gave v n) = (v == vip) && (n == number)
is_on vip number (Ended v n) = (v == vip) && (n == number)
is_on vip number (Released v n) = (v == vip) && (n == number)

-- the last act on a number, where the acts before these had this last one
abbrev pub last_act : ℕ → ℕ → Option NumberAct → List NumberAct → Option NumberAct
last_act vip number last [] = last
last_act vip number last (act ∷ acts) = last_act vip number (if is_on vip number act then Some act else last) acts

-- the state of a number whose last act was this one, and that began so
abbrev pub state_after : NumberState → Option NumberAct → NumberState
state_after start None = start
state_after start (Some (Gave vip number)) = Current
state_after start (Some (Ended vip number)) = Draining
state_after start (Some (Released vip number)) = Free

-- the act was a release
abbrev pub IsRelease : Option NumberAct → Type 0
IsRelease None = ⊥
IsRelease (Some (Gave vip number)) = ⊥
IsRelease (Some (Ended vip number)) = ⊥
IsRelease (Some (Released vip number)) = Unit {0}
