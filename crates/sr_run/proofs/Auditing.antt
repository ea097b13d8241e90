-- What each status of the command `audit` says, put together from its parts.
use Rattle.std.proofs.Common.{◌≡◌, ℕ, ◌≤◌, List, [], length, Option, Some, None, Result, Ok, Err, refl, sym, subst, inl, inr}
use Rattle.sr_frame.specs.declared.skip.Skip.{Skip}
use Rattle.sr_io.specs.Faults.{Counts}
use Rattle.sr_io.specs.Shelf.{Fetches as ShelfFetches}
use Rattle.sr_io.specs.Sink.{SinkKnown, Adds}
use Rattle.sr_io.specs.Source.{SourceKnown}
use Rattle.sr_io.specs.declared.shelf.FetchRefusal.TheVariants.{TooLong}
use Rattle.sr_io.proofs.Adding.{adds_nothing}
use Rattle.sr_law.specs.declared.line.Line.{Line}
use Rattle.sr_script.specs.declared.script.Script.{Script as AScript}
use Rattle.sr_script.specs.declared.refusal.ScriptRefusal.{ScriptRefusal}
use Rattle.sr_script.specs.declared.why.Why.TheVariants.{TextTooLong}
use Rattle.sr_script.specs.Fault.{Fault, fault_of}
use Rattle.sr_script.specs.Spelled.{Spelled}
use Rattle.sr_text.specs.declared.log_refusal.LogRefusal.{LogRefusal}
use Rattle.sr_text.specs.declared.log_refusal.LogRefusal.TheVariants as log
use Rattle.sr_text.specs.Log.{Reads}
use Rattle.sr_run.specs.Audit.{AnswersOfLog, IsText, AuditsLog, AuditSays, EndsAudit, EndsLog}
use Rattle.sr_run.specs.Outside.{Outside, WritesNothing}
use Rattle.sr_run.specs.ScriptText.{IsScript, IsNoScript, Fetches, IsReady, too_long}
use Rattle.sr_run.specs.Status.{status_of_log}
use Rattle.sr_run.specs.declared.status.Status.{Status}
use Rattle.sr_run.specs.declared.status.Status.TheVariants.{Done, Usage, Script, Capture, ReadFault, WriteFault, Memory, Waiting, Breach}

-- a text that the shelf gave, and what it was parsed to
pub fetched_ok : {V : Type 0} (items : V → List ℕ) (v : V) (told : Option (List ℕ)) (result : Result AScript Status) → ShelfFetches items (Ok v) told 1048576
    → (length (items v) ≤ 1048576 → Fetches result (Some (items v))) → Fetches result told
fetched_ok items v (Some text) result fetched parsed =
    subst (λ t. Fetches result (Some t)) fetched.0 (parsed (subst (λ t. length t ≤ 1048576) (sym fetched.0) fetched.1))
fetched_ok items v None result fetched parsed = absurd fetched

-- the fault of a text that is too long, at a path
abbrev pub too_long_at : List ℕ → Fault
too_long_at path = record { why = TextTooLong; path = path }

-- a text that is too long
pub fetched_too_long : {V : Type 0} (items : V → List ℕ) (told : Option (List ℕ)) (fault : Fault) → ShelfFetches {V = V} items (Err TooLong) told 1048576 → fault ≡ too_long → IsNoScript told fault
fetched_too_long items (Some text) fault fetched same = inl (fetched, same)
fetched_too_long items None fault fetched same = absurd fetched

-- a log that can't be read
pub audits_unread : {L : Type 0} (skips : L → List (ℕ × Skip)) (lines : L → List Line) (why : LogRefusal) (s : Spelled) (bytes : List ℕ) (source : SourceKnown) (sink : SinkKnown)
    → Reads skips lines (Err why) bytes source.left → AuditsLog (status_of_log why) s bytes source sink sink
audits_unread skips lines (log.BadLine number) s bytes source sink reads = inl (refl, reads, adds_nothing sink.taken)
audits_unread skips lines log.ReadFault s bytes source sink reads = adds_nothing sink.taken
audits_unread skips lines log.Memory s bytes source sink reads = adds_nothing sink.taken

pub ends_unread : (why : LogRefusal) → EndsLog (status_of_log why)
ends_unread (log.BadLine number) = tt
ends_unread log.ReadFault = tt
ends_unread log.Memory = tt

pub quiet_unread : (why : LogRefusal) (sink : SinkKnown) → WritesNothing (status_of_log why) sink sink
quiet_unread (log.BadLine number) sink = adds_nothing sink.taken
quiet_unread log.ReadFault sink = adds_nothing sink.taken
quiet_unread log.Memory sink = adds_nothing sink.taken

pub unread_fault : (why : LogRefusal) → status_of_log why ≡ ReadFault → why ≡ log.ReadFault
unread_fault (log.BadLine number) fault = absurd cc
unread_fault log.ReadFault fault = refl
unread_fault log.Memory fault = absurd cc

pub unread_unwritten : (why : LogRefusal) → status_of_log why ≡ WriteFault → ⊥
unread_unwritten (log.BadLine number) fault = cc
unread_unwritten log.ReadFault fault = cc
unread_unwritten log.Memory fault = cc

-- a log that was read, and what was said of it
pub audits_read : (status : Status) (s : Spelled) (skips : List (ℕ × Skip)) (lines : List Line) (bytes : List ℕ) (source : SourceKnown) (before after : SinkKnown)
    → IsText bytes source.left skips lines → AnswersOfLog status s skips lines before after → AuditsLog status s bytes source before after
audits_read Done s skips lines bytes source before after text answers = (skips, lines, text, answers)
audits_read WriteFault s skips lines bytes source before after text answers = (skips, lines, text, answers)
audits_read Memory s skips lines bytes source before after text answers = answers
audits_read (Breach line what) s skips lines bytes source before after text answers = inr (skips, lines, text, answers)
audits_read Usage s skips lines bytes source before after text answers = absurd answers
audits_read (Script refusal) s skips lines bytes source before after text answers = absurd answers
audits_read (Capture why) s skips lines bytes source before after text answers = absurd answers
audits_read ReadFault s skips lines bytes source before after text answers = absurd answers
audits_read (Waiting key) s skips lines bytes source before after text answers = absurd answers

pub ends_read : (status : Status) (s : Spelled) (skips : List (ℕ × Skip)) (lines : List Line) (before after : SinkKnown) → AnswersOfLog status s skips lines before after → EndsLog status
ends_read Done s skips lines before after answers = tt
ends_read WriteFault s skips lines before after answers = tt
ends_read Memory s skips lines before after answers = tt
ends_read (Breach line what) s skips lines before after answers = tt
ends_read Usage s skips lines before after answers = absurd answers
ends_read (Script refusal) s skips lines before after answers = absurd answers
ends_read (Capture why) s skips lines before after answers = absurd answers
ends_read ReadFault s skips lines before after answers = absurd answers
ends_read (Waiting key) s skips lines before after answers = absurd answers

pub quiet_read : (status : Status) (s : Spelled) (skips : List (ℕ × Skip)) (lines : List Line) (before after : SinkKnown) → AnswersOfLog status s skips lines before after → WritesNothing status before after
quiet_read Done s skips lines before after answers = tt
quiet_read WriteFault s skips lines before after answers = tt
quiet_read Memory s skips lines before after answers = answers
quiet_read (Breach line what) s skips lines before after answers = answers.1
quiet_read Usage s skips lines before after answers = absurd answers
quiet_read (Script refusal) s skips lines before after answers = absurd answers
quiet_read (Capture why) s skips lines before after answers = absurd answers
quiet_read ReadFault s skips lines before after answers = absurd answers
quiet_read (Waiting key) s skips lines before after answers = absurd answers

pub read_sound : (status : Status) (s : Spelled) (skips : List (ℕ × Skip)) (lines : List Line) (before after : SinkKnown) → AnswersOfLog status s skips lines before after → status ≡ ReadFault → ⊥
read_sound status s skips lines before after answers fault = rw fault at answers

-- a script that was fetched, and the log that was audited by it
pub says_audited : (status : Status) (text : Option (List ℕ)) (s : Spelled) (bytes : List ℕ) (before after : Outside) → IsScript text s → AuditsLog status s bytes after.source before.sink after.sink
    → Counts (status ≡ ReadFault) before.source.faults after.source.faults → AuditSays status text bytes before after
says_audited Done text s bytes before after script log counts = (s, script, log)
says_audited WriteFault text s bytes before after script log counts = (s, script, log)
says_audited (Breach line what) text s bytes before after script log counts = (s, script, log)
says_audited ReadFault text s bytes before after script log counts = (log, inr (s, script, counts.rose refl))
says_audited Memory text s bytes before after script log counts = log
says_audited Usage text s bytes before after script log counts = absurd log
says_audited (Script refusal) text s bytes before after script log counts = absurd log
says_audited (Capture why) text s bytes before after script log counts = absurd log
says_audited (Waiting key) text s bytes before after script log counts = absurd log

pub ends_audited : (status : Status) → EndsLog status → EndsAudit status
ends_audited Done ends = tt
ends_audited WriteFault ends = tt
ends_audited (Breach line what) ends = tt
ends_audited ReadFault ends = tt
ends_audited Memory ends = tt
ends_audited Usage ends = absurd ends
ends_audited (Script refusal) ends = absurd ends
ends_audited (Capture why) ends = absurd ends
ends_audited (Waiting key) ends = absurd ends

pub no_script_status : (status : Status) → EndsLog status → (refusal : ScriptRefusal) → status ≡ Script refusal → ⊥
no_script_status status ends refusal e = rw e at ends

-- no script: the shelf failed, the text was refused, or no memory was found
pub says_unfetched : (status : Status) (text : Option (List ℕ)) (bytes : List ℕ) (before after : Outside) → Fetches (Err status) text → after.sink ≡ before.sink
    → Counts (◌≡◌ {A = Result AScript Status} (Err status) (Err ReadFault)) before.shelf.faults after.shelf.faults → AuditSays status text bytes before after
says_unfetched (Script refusal) text bytes before after fetched sink counts = (fetched, subst (λ (k : SinkKnown). Adds before.sink.taken k.taken []) (sym sink) (adds_nothing before.sink.taken))
says_unfetched ReadFault text bytes before after fetched sink counts = (subst (λ (k : SinkKnown). Adds before.sink.taken k.taken []) (sym sink) (adds_nothing before.sink.taken), inl (counts.rose refl))
says_unfetched Memory text bytes before after fetched sink counts = subst (λ (k : SinkKnown). Adds before.sink.taken k.taken []) (sym sink) (adds_nothing before.sink.taken)
says_unfetched Done text bytes before after fetched sink counts = absurd fetched
says_unfetched WriteFault text bytes before after fetched sink counts = absurd fetched
says_unfetched (Breach line what) text bytes before after fetched sink counts = absurd fetched
says_unfetched Usage text bytes before after fetched sink counts = absurd fetched
says_unfetched (Capture why) text bytes before after fetched sink counts = absurd fetched
says_unfetched (Waiting key) text bytes before after fetched sink counts = absurd fetched

pub ends_unfetched : (status : Status) → IsReady (Err status) → EndsAudit status
ends_unfetched (Script refusal) ready = tt
ends_unfetched ReadFault ready = tt
ends_unfetched Memory ready = tt
ends_unfetched Done ready = absurd ready
ends_unfetched WriteFault ready = absurd ready
ends_unfetched (Breach line what) ready = absurd ready
ends_unfetched Usage ready = absurd ready
ends_unfetched (Capture why) ready = absurd ready
ends_unfetched (Waiting key) ready = absurd ready

pub quiet_unfetched : (status : Status) (sink : SinkKnown) → IsReady (Err status) → WritesNothing status sink sink
quiet_unfetched (Script refusal) sink ready = adds_nothing sink.taken
quiet_unfetched ReadFault sink ready = adds_nothing sink.taken
quiet_unfetched Memory sink ready = adds_nothing sink.taken
quiet_unfetched Done sink ready = absurd ready
quiet_unfetched WriteFault sink ready = absurd ready
quiet_unfetched (Breach line what) sink ready = absurd ready
quiet_unfetched Usage sink ready = absurd ready
quiet_unfetched (Capture why) sink ready = absurd ready
quiet_unfetched (Waiting key) sink ready = absurd ready

pub unfetched_refuses : (status : Status) (text : Option (List ℕ)) (refusal : ScriptRefusal) → Fetches (Err status) text → status ≡ Script refusal → IsNoScript text (fault_of refusal)
unfetched_refuses status text refusal fetched e = rw e at fetched

pub unfetched_unwritten : (status : Status) → IsReady (Err status) → status ≡ WriteFault → ⊥
unfetched_unwritten status ready e = rw e at ready
