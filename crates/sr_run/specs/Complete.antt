-- A run is complete: where what it reads is valid and no device fails, it is done, or it had no memory, or, where pools change, an
-- update waits for a key.
use Rattle.std.specs.Prelude.{◌≡◌, ◌⊎◌, ◌≤◌, ℕ, List, Option, Some, None}
use Rattle.sr_frame.specs.declared.skip.Skip.{Skip}
use Rattle.sr_io.specs.Faults.{Rose}
use Rattle.sr_law.specs.declared.clause.Clause.{Clause}
use Rattle.sr_law.specs.declared.clause.Clause.TheVariants as clause
use Rattle.sr_law.specs.declared.line.Line.{Line}
use Rattle.sr_script.specs.Fault.{Fault}
use Rattle.sr_script.specs.Spelled.{Spelled}
use Rattle.sr_text.specs.LineText.{log_text}
use Rattle.sr_text.specs.Log.{IsLog, IsFirstBad, line_count, most_lines}
use Rattle.sr_run.specs.Audit.{IsBroken}
use Rattle.sr_run.specs.Command.{Command, One, Make, Replay, Audit, Steps, Demo}
use Rattle.sr_run.specs.One.{refusal_of}
use Rattle.sr_run.specs.Outside.{Outside}
use Rattle.sr_run.specs.ScriptText.{IsScript, IsNoScript}
use Rattle.sr_run.specs.declared.status.Status.{Status}
use Rattle.sr_run.specs.declared.status.Status.TheVariants.{Done, Memory, Waiting}

-- no cause to refuse the script that the name has
abbrev pub HasNoFault : Option (List ℕ) → Type 0
HasNoFault text = (fault : Fault) → IsNoScript text fault → ⊥

-- why `audit` names this line of these bytes: the line is the first outside the grammar, or the log is one whose line it is that breaks something first
abbrev pub BreaksLog : Spelled → List ℕ → ℕ → Clause → Type 0
BreaksLog s bytes line what =
    ((what ≡ clause.Text) × IsFirstBad line bytes)
    ⊎ ((skips : List (ℕ × Skip)) × (lines : List Line) × (bytes ≡ log_text skips lines) × IsLog skips lines × (line_count skips lines ≤ most_lines)
    × IsBroken s skips lines line what)

-- no cause to name a line, by the script that the name has
abbrev pub BreaksNothing : Option (List ℕ) → List ℕ → Type 0
BreaksNothing text bytes = (s : Spelled) (line : ℕ) (what : Clause) → IsScript text s → BreaksLog s bytes line what → ⊥

-- the source tells its bytes, and they are a capture of which nothing is refused
pub record TellsCapture (before : Outside) : Type 0 where
  pub bytes : List ℕ
  pub told : before.source.left ≡ Some bytes
  pub whole : refusal_of bytes ≡ None

-- the shelf tells its texts, and there is no cause to refuse this one
pub record TellsScript (before : Outside) (name : List ℕ) : Type 0 where
  pub texts : List ℕ → Option (List ℕ)
  pub told : before.shelf.texts ≡ Some texts
  pub good : HasNoFault (texts name)

-- and by it there is no cause to name a line of the source's bytes
pub record TellsLog (before : Outside) (name : List ℕ) : Type 0 where
  pub script : TellsScript before name
  pub bytes : List ℕ
  pub told : before.source.left ≡ Some bytes
  pub good : BreaksNothing (script.texts name) bytes

-- what a command reads is valid
abbrev pub IsValid : Command → Outside → Type 0
IsValid (One vip servers) before = TellsCapture before
IsValid (Make number packets) before = Unit {0}
IsValid (Replay script) before = TellsScript before script × TellsCapture before
IsValid (Audit script) before = TellsLog before script
IsValid (Steps script seed) before = TellsScript before script × TellsCapture before
IsValid (Demo number) before = Unit {0}

-- no device failed
pub record NoneFailed (before after : Outside) : Type 0 where
  pub source : Rose before.source.faults after.source.faults → ⊥
  pub shelf : Rose before.shelf.faults after.shelf.faults → ⊥
  pub sink : Rose before.sink.faults after.sink.faults → ⊥

-- a command is done, or there was no memory
abbrev pub IsDone : Status → Type 0
IsDone Done = Unit {0}
IsDone Memory = Unit {0}
IsDone status = ⊥

-- or an update waits for a key
abbrev pub IsDoneOrWaits : Status → Type 0
IsDoneOrWaits (Waiting key) = Unit {0}
IsDoneOrWaits status = IsDone status

abbrev pub EndsWell : Command → Status → Type 0
EndsWell (One vip servers) status = IsDone status
EndsWell (Make number packets) status = IsDone status
EndsWell (Replay script) status = IsDoneOrWaits status
EndsWell (Audit script) status = IsDone status
EndsWell (Steps script seed) status = IsDoneOrWaits status
EndsWell (Demo number) status = IsDoneOrWaits status

-- Where what the command reads is valid, and no device fails, it ends well.
abbrev pub Completes : Command → Status → Outside → Outside → Type 0
Completes command status before after = IsValid command before → NoneFailed before after → EndsWell command status
