-- What the command `audit` does: it judges a log by a script.
use Rattle.std.specs.Prelude.{◌≡◌, ◌⊎◌, ◌≤◌, ◌+◌, ℕ, List, [], ◌∷◌, ◌++◌, length, codes, Option, Some, Result, Ok, Err}
use Rattle.std.specs.Fmt.{decimal}
use Rattle.std.specs.Option.{ForSome}
use Rattle.sr_frame.specs.declared.skip.Skip.{Skip}
use Rattle.sr_io.specs.Faults.{Rose}
use Rattle.sr_io.specs.Sink.{SinkKnown, Adds, Writes}
use Rattle.sr_io.specs.Source.{SourceKnown}
use Rattle.sr_io.specs.declared.sink.Put.TheVariants as put
use Rattle.sr_law.specs.declared.check_refusal.CheckRefusal.TheVariants as check
use Rattle.sr_law.specs.declared.clause.Clause.{Clause}
use Rattle.sr_law.specs.declared.clause.Clause.TheVariants as clause
use Rattle.sr_law.specs.declared.line.Line.{Line}
use Rattle.sr_law.specs.Final.{packets_of}
use Rattle.sr_law.specs.Lawful.{IsLawful, breach_of}
use Rattle.sr_law.specs.Pools.{pools_from}
use Rattle.sr_law.specs.Setup.{SetupView}
use Rattle.sr_script.specs.Fault.{fault_of}
use Rattle.sr_script.specs.Spelled.{Spelled}
use Rattle.sr_script.specs.declared.refusal.ScriptRefusal.{ScriptRefusal}
use Rattle.sr_text.specs.LineText.{log_text}
use Rattle.sr_text.specs.Log.{IsLog, IsFirstBad, line_count, most_lines}
use Rattle.sr_run.specs.Outside.{Outside}
use Rattle.sr_run.specs.Numbering.{IsNumbering, numbers_of}
use Rattle.sr_run.specs.ScriptText.{IsScript, IsNoScript}
use Rattle.sr_run.specs.declared.status.Status.{Status}
use Rattle.sr_run.specs.declared.status.Status.TheVariants.{Done, Script, ReadFault, WriteFault, Memory, Breach}

-- what the lines are judged for: the script's shape, servers and pools, and the packets that the lines themselves tell of
abbrev pub audit_setup : Spelled → List Line → SetupView
audit_setup s lines = record { shape = s.shape; servers = length s.servers; pools = pools_from 0 s.first s.changes; packets = packets_of lines }

-- the line of the text that line k of the list is, from 1: the head and the skipped records come first
abbrev pub text_line : List (ℕ × Skip) → ℕ → ℕ
text_line skips k = (1 + length skips) + k

-- the records' numbers are 1 to as many as they are, each once
abbrev pub HasNumbers : List (ℕ × Skip) → List Line → Type 0
HasNumbers skips lines = IsNumbering (numbers_of skips (packets_of lines))

-- the log is as a run over the script may print it
abbrev pub IsAudited : Spelled → List (ℕ × Skip) → List Line → Type 0
IsAudited s skips lines = HasNumbers skips lines × IsLawful (audit_setup s lines) lines

-- the records' numbers are wrong, which is told at one past the last line of the text
abbrev pub LacksNumbers : List (ℕ × Skip) → List Line → ℕ → Clause → Type 0
LacksNumbers skips lines line what = ¬ (HasNumbers skips lines) × (line ≡ text_line skips (length lines + 1)) × (what ≡ clause.Final)

-- or else what the auditor of lists names, by its line of the text
abbrev pub IsNamed : Spelled → List (ℕ × Skip) → List Line → ℕ → Clause → Type 0
IsNamed s skips lines line what =
    HasNumbers skips lines × ((k : ℕ) × (breach_of (audit_setup s lines) lines ≡ Some (check.Breach k what)) × (line ≡ text_line skips k))

-- the first line of the text that breaks something, of a text in the grammar
abbrev pub IsBroken : Spelled → List (ℕ × Skip) → List Line → ℕ → Clause → Type 0
IsBroken s skips lines line what = LacksNumbers skips lines line what ⊎ IsNamed s skips lines line what

-- what judging says of a log
abbrev pub Judges : Result (Unit {0}) Status → Spelled → List (ℕ × Skip) → List Line → Type 0
Judges (Ok done) s skips lines = IsAudited s skips lines
Judges (Err (Breach line what)) s skips lines = IsBroken s skips lines line what
Judges (Err Memory) s skips lines = Unit {0}
Judges (Err status) s skips lines = ⊥

-- what is printed of a lawful list of so many lines
unfoldable pub lawful_text : ℕ → List ℕ
lawful_text count = codes "lawful " ++ (decimal count ++ 10 ∷ [])

-- what each status says of the log that was read, and of what the sink took
abbrev pub AnswersOfLog : Status → Spelled → List (ℕ × Skip) → List Line → SinkKnown → SinkKnown → Type 0
AnswersOfLog Done s skips lines before after = IsAudited s skips lines × Writes put.All before after (lawful_text (length lines))
AnswersOfLog WriteFault s skips lines before after = IsAudited s skips lines × Writes put.Failed before after (lawful_text (length lines))
AnswersOfLog Memory s skips lines before after = Adds before.taken after.taken []
AnswersOfLog (Breach line what) s skips lines before after = IsBroken s skips lines line what × Adds before.taken after.taken []
AnswersOfLog status s skips lines before after = ⊥

-- the bytes are the text of this log, and no longer than a log may be; and all of them were read
pub record IsText (bytes : List ℕ) (left : Option (List ℕ)) (skips : List (ℕ × Skip)) (lines : List Line) : Type 0 where
  pub printed : bytes ≡ log_text skips lines
  pub numbers : IsLog skips lines
  pub within : line_count skips lines ≤ most_lines
  pub all : left ≡ Some []

-- so it is with some log
abbrev pub AnswersLog : Status → Spelled → List ℕ → SourceKnown → SinkKnown → SinkKnown → Type 0
AnswersLog status s bytes source before after =
    (skips : List (ℕ × Skip)) × (lines : List Line) × IsText bytes source.left skips lines × AnswersOfLog status s skips lines before after

-- the statuses with which `audit` ends: it reads a script and a log
abbrev pub EndsAudit : Status → Type 0
EndsAudit Done = Unit {0}
EndsAudit (Script refusal) = Unit {0}
EndsAudit ReadFault = Unit {0}
EndsAudit WriteFault = Unit {0}
EndsAudit Memory = Unit {0}
EndsAudit (Breach line what) = Unit {0}
EndsAudit status = ⊥

-- so too once it has the script
abbrev pub EndsLog : Status → Type 0
EndsLog Done = Unit {0}
EndsLog ReadFault = Unit {0}
EndsLog WriteFault = Unit {0}
EndsLog Memory = Unit {0}
EndsLog (Breach line what) = Unit {0}
EndsLog status = ⊥

-- what each status says of the bytes of a log, what the source has left of them, and what the sink took
abbrev pub AuditsLog : Status → Spelled → List ℕ → SourceKnown → SinkKnown → SinkKnown → Type 0
AuditsLog Done s bytes source before after = AnswersLog Done s bytes source before after
AuditsLog ReadFault s bytes source before after = Adds before.taken after.taken []
AuditsLog WriteFault s bytes source before after = AnswersLog WriteFault s bytes source before after
AuditsLog Memory s bytes source before after = Adds before.taken after.taken []
AuditsLog (Breach line what) s bytes source before after =
    ((what ≡ clause.Text) × IsFirstBad line bytes × Adds before.taken after.taken []) ⊎ AnswersLog (Breach line what) s bytes source before after
AuditsLog status s bytes source before after = ⊥

-- the name has a script, and the log is audited by it
abbrev pub AuditsBy : Status → Option (List ℕ) → List ℕ → SourceKnown → SinkKnown → SinkKnown → Type 0
AuditsBy status text bytes source before after = (s : Spelled) × IsScript text s × AuditsLog status s bytes source before after

-- What each status says of the text that the script's name has, of the bytes of the log, and of what is known before and after. A read fault is
-- one of the shelf, or one of the source, of which nothing is read unless the name has a script.
abbrev pub AuditSays : Status → Option (List ℕ) → List ℕ → Outside → Outside → Type 0
AuditSays Done text bytes before after = AuditsBy Done text bytes after.source before.sink after.sink
AuditSays (Script refusal) text bytes before after = IsNoScript text (fault_of refusal) × Adds before.sink.taken after.sink.taken []
AuditSays ReadFault text bytes before after =
    Adds before.sink.taken after.sink.taken []
    × (Rose before.shelf.faults after.shelf.faults ⊎ ((s : Spelled) × IsScript text s × Rose before.source.faults after.source.faults))
AuditSays WriteFault text bytes before after = AuditsBy WriteFault text bytes after.source before.sink after.sink
AuditSays Memory text bytes before after = Adds before.sink.taken after.sink.taken []
AuditSays (Breach line what) text bytes before after = AuditsBy (Breach line what) text bytes after.source before.sink after.sink
AuditSays status text bytes before after = ⊥

-- What a run of `audit` comes to: its statuses, for every source and shelf; what they say, where the shelf tells its texts and the source its
-- bytes; and when a script is refused, where the shelf alone tells.
pub record RunsAudit (script : List ℕ) (status : Status) (before after : Outside) : Type 0 where
  pub ends : EndsAudit status
  pub says : ForSome before.shelf.texts (λ texts. ForSome before.source.left (λ bytes. AuditSays status (texts script) bytes before after))
  pub refuses : (refusal : ScriptRefusal) → ForSome before.shelf.texts (λ texts. status ≡ Script refusal → IsNoScript (texts script) (fault_of refusal))
