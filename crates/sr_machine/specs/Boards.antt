-- One actor's access to the words: what a step and a telling ask of a board, and what they leave.
use Rattle.std.specs.Prelude.{◌≡◌, ℕ, ◌+◌, ◌==◌, List, option_map, Option, Some, None, if◌then◌else◌}
use Rattle.atomic_table.specs.Seated.{TableId}
use Rattle.sr_base.specs.Layout.{LayoutView}
use Rattle.sr_base.specs.declared.packet.Packet.{Packet}
use Rattle.sr_base.specs.declared.word_name.WordName.{WordName}
use Rattle.sr_base.specs.declared.word_name.WordName.TheVariants as word
use Rattle.sr_machine.specs.Config.{Config}
use Rattle.sr_machine.specs.Core.{view_after, view_op}
use Rattle.sr_machine.specs.Ops.{op_answer, op_name, op_words}
use Rattle.sr_machine.specs.Pipe.{entered}
use Rattle.sr_machine.specs.Telling.{told_time, told_to_refuse}
use Rattle.sr_machine.specs.declared.actor.Actor.{Actor}
use Rattle.sr_machine.specs.declared.name.Name.{Name}
use Rattle.sr_machine.specs.declared.op.Op.{Op}
use Rattle.sr_machine.specs.declared.view.View.{View}
use Rattle.sr_machine.specs.declared.view.View.TheVariants.{OfPipe, OfController}

-- What a board belongs to, and what it holds beside its actor's view. No step and no telling changes it.
pub record Beside : Type 0 where
  -- the layout of its words
  pub layout : LayoutView
  -- the actor, where the board has one
  pub actor : Option Actor
  -- the table, where its words are shared by threads
  pub table : Option TableId
  -- the views that were joined to its actor's
  pub joined : List View
  -- the ghost name of the reference that it goes through, where it goes through one
  pub name : Option ℕ

-- ---- a step

-- some view that the board fits has this step next
abbrev pub IsNext : (Config → View → Type 0) → Op → Type 0
IsNext fits op = (k : Config) × (v : View) × fits k v × (view_op k v ≡ Some op)

-- after the step, which answered this, the board fits what becomes of each such view
abbrev pub FitsAfter : (Config → View → Type 0) → Op → ℕ → (Config → View → Type 0) → Type 0
FitsAfter fits op answer after = (k : Config) (v : View) → fits k v → view_op k v ≡ Some op → after k (view_after k v answer)

-- where the words were told, the answer is theirs, and the words after the step are told
abbrev pub ShowsAfter : ((Name → ℕ) → Type 0) → Op → ℕ → ((Name → ℕ) → Type 0) → Type 0
ShowsAfter shows op answer after =
    (words : Name → ℕ) → shows words → (answer ≡ op_answer op (words (op_name op))) × after (op_words words op)

-- ---- a telling

-- a packet enters
abbrev pub told_packet : Packet → Config → View → Option View
told_packet packet k (OfPipe v) = option_map OfPipe (entered k.layout packet v)
told_packet packet k (OfController c) = None

-- the controller is told the time
abbrev pub told_ms : ℕ → Config → View → Option View
told_ms ms k (OfPipe v) = None
told_ms ms k (OfController c) = option_map OfController (told_time ms c)

-- the controller is told to refuse
abbrev pub told_refusal : Config → View → Option View
told_refusal k (OfPipe v) = None
told_refusal k (OfController c) = option_map OfController (told_to_refuse c)

-- some view that the board fits can be told this
abbrev pub CanBeTold : (Config → View → Type 0) → (Config → View → Option View) → Type 0
CanBeTold fits telling = (k : Config) × (v : View) × (w : View) × fits k v × (telling k v ≡ Some w)

-- after the telling the board fits what becomes of each such view
abbrev pub FitsTold : (Config → View → Type 0) → (Config → View → Option View) → (Config → View → Type 0) → Type 0
FitsTold fits telling after = (k : Config) (v w : View) → fits k v → telling k v ≡ Some w → after k w

-- ---- at rest

-- no packet is in hand: a note answers 0
abbrev pub QuietNote : WordName → ℕ → Type 0
QuietNote (word.Note pipe) answer = answer ≡ 0
QuietNote name answer = Unit {0}

-- how many reports the rings hold once a ring's cell was swapped, and answered this
abbrev pub ReportsAfter : WordName → ℕ → ℕ → ℕ → Type 0
ReportsAfter (word.Ring pipe cell) answer old new = old ≡ new + (if answer == 0 then 0 else 1)
ReportsAfter name answer old new = new ≡ old

-- Where the board rests it rests after this, and its rings hold as many reports.
pub record StaysAtRest (rests : Type 0) (reports : ℕ) (rests_after : Type 0) (reports_after : ℕ) : Type 0 where
  pub still : rests → rests_after
  pub same : rests → reports_after ≡ reports
