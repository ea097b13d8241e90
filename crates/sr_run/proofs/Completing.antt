-- What is valid, and read and written without a fault, is played, judged or printed to its end.
use Rattle.std.proofs.Common.{◌≡◌, ℕ, List, None, Option, Some, refl, ◌∙◌, subst, inl, inr}
use Rattle.std.specs.Prelude.{option_map}
use Rattle.std.specs.Option.{ForSome}
use Rattle.sr_io.specs.Faults.{Counts}
use Rattle.sr_script.specs.Fault.{fault_of}
use Rattle.sr_run.specs.Audit.{AuditSays, RunsAudit}
use Rattle.sr_run.specs.Command.{Command, seen}
use Rattle.sr_run.specs.declared.command.Command.{Command as Read}
use Rattle.sr_run.specs.Complete.{BreaksNothing, Completes, HasNoFault, IsDone, IsDoneOrWaits, NoneFailed, TellsCapture, TellsLog, TellsScript}
use Rattle.sr_run.specs.One.{OneSays, refusal_of}
use Rattle.sr_run.specs.Outside.{Outside, TellsFaults}
use Rattle.sr_run.specs.Played.{PlaySays, RunsPlay}
use Rattle.sr_run.specs.declared.status.Status.{Status}
use Rattle.sr_run.specs.declared.status.Status.TheVariants as status
use Rattle.sr_run.specs.declared.way.Way.{Way}

-- a command that completes is the one that the words are
pub completes : (known command : Command) (o : Option Command) (s : Status) (before after : Outside) → Some known ≡ o → o ≡ Some command
    → Completes known s before after → Completes command s before after
completes known command o s before after is other h =
    let same : known ≡ command = let both : ◌≡◌ {A = Option Command} (Some known) (Some command) = is ∙ other in cc in
    subst (λ k. Completes k s before after) same h

-- the command that was read is the one that the words are
pub of_words : (o : Option Read) (r : Read) (found : Option Command) → option_map seen o ≡ found → o ≡ Some r → Some (seen r) ≡ found
of_words o r found e is = subst (λ o. option_map seen o ≡ found) is e

-- with no fault of a device none is told
not_read : (before after : Outside) → TellsFaults status.ReadFault before after → NoneFailed before after → ⊥
not_read before after told none =
    elim (told.read refl) [
      | inl source ↦ none.source source
      | inr shelf ↦ none.shelf shelf
    ]

not_written : (before after : Outside) → TellsFaults status.WriteFault before after → NoneFailed before after → ⊥
not_written before after told none = none.sink (told.sink.rose refl)

-- ---- commands that read a capture

-- what is said of the bytes that are told
told_of : {X : Type 0} (o : Option X) (x : X) (P : X → Type 0) → o ≡ Some x → ForSome o P → P x
told_of o x P e h = h x e

one_says : (vip : ℕ × ℕ) (servers : ℕ) (s : Status) (bytes : List ℕ) (before after : Outside) → refusal_of bytes ≡ None
    → OneSays s vip servers bytes after.source before.sink after.sink → (s ≡ status.ReadFault → ⊥) → (s ≡ status.WriteFault → ⊥) → IsDone s
one_says vip servers status.Done bytes before after whole says read written = tt
one_says vip servers status.Memory bytes before after whole says read written = tt
one_says vip servers status.ReadFault bytes before after whole says read written = absurd (read refl)
one_says vip servers status.WriteFault bytes before after whole says read written = absurd (written refl)
one_says vip servers (status.Capture why) bytes before after whole says read written = absurd (cc (whole, says.0))
one_says vip servers s bytes before after whole says read written = absurd says

pub one_done : (vip : ℕ × ℕ) (servers : ℕ) (s : Status) (before after : Outside) → TellsCapture before
    → ForSome before.source.left (λ bytes. OneSays s vip servers bytes after.source before.sink after.sink)
    → Counts (s ≡ status.ReadFault) before.source.faults after.source.faults
    → Counts (s ≡ status.WriteFault) before.sink.faults after.sink.faults
    → NoneFailed before after → IsDone s
one_done vip servers s before after valid says source sink none =
    one_says vip servers s valid.bytes before after valid.whole
    (told_of before.source.left valid.bytes (λ bytes. OneSays s vip servers bytes after.source before.sink after.sink) valid.told says)
    (λ e. none.source (source.rose e)) (λ e. none.sink (sink.rose e))

play_says : (way : Way) (s : Status) (text : Option (List ℕ)) (bytes : List ℕ) (before after : Outside) → HasNoFault text → refusal_of bytes ≡ None
    → PlaySays s text way bytes before after → TellsFaults s before after → NoneFailed before after → IsDoneOrWaits s
unfolding refusal_of
play_says way status.Done text bytes before after good whole says told none = tt
play_says way (status.Waiting key) text bytes before after good whole says told none = tt
play_says way status.Memory text bytes before after good whole says told none = tt
play_says way status.ReadFault text bytes before after good whole says told none = not_read before after told none
play_says way status.WriteFault text bytes before after good whole says told none = not_written before after told none
play_says way (status.Script refusal) text bytes before after good whole says told none = absurd (good (fault_of refusal) says.0)
play_says way (status.Capture why) text bytes before after good whole (s, script, inl (header, refused, same, written)) told none =
    absurd (cc (whole, refused))
play_says way (status.Capture why) text bytes before after good whole (s, script, inr (awaited, log, run, written)) told none =
    absurd (cc (whole, run.taken, run.ended))
play_says way s text bytes before after good whole says told none = absurd says

pub play_done : (script : List ℕ) (way : Way) (s : Status) (before after : Outside) → TellsScript before script → TellsCapture before
    → RunsPlay script way s before after → TellsFaults s before after → NoneFailed before after → IsDoneOrWaits s
play_done script way s before after named valid runs told none =
    play_says way s (named.texts script) valid.bytes before after named.good valid.whole
    (told_of before.source.left valid.bytes (λ bytes. PlaySays s (named.texts script) way bytes before after) valid.told
    (told_of before.shelf.texts named.texts (λ texts. ForSome before.source.left (λ bytes. PlaySays s (texts script) way bytes before after)) named.told runs.says))
    told none

-- ---- the command that reads a log

audit_says : (s : Status) (text : Option (List ℕ)) (bytes : List ℕ) (before after : Outside) → HasNoFault text → BreaksNothing text bytes
    → AuditSays s text bytes before after → TellsFaults s before after → NoneFailed before after → IsDone s
audit_says status.Done text bytes before after good holds says told none = tt
audit_says status.Memory text bytes before after good holds says told none = tt
audit_says status.ReadFault text bytes before after good holds says told none = not_read before after told none
audit_says status.WriteFault text bytes before after good holds says told none = not_written before after told none
audit_says (status.Script refusal) text bytes before after good holds says told none = absurd (good (fault_of refusal) says.0)
audit_says (status.Breach line what) text bytes before after good holds (s, script, inl (is_text, first, written)) told none =
    absurd (holds s line what script (inl (is_text, first)))
audit_says (status.Breach line what) text bytes before after good holds (s, script, inr (skips, lines, is, (broken, written))) told none =
    absurd (holds s line what script (inr (skips, lines, is.printed, is.numbers, is.within, broken)))
audit_says s text bytes before after good holds says told none = absurd says

pub audit_done : (script : List ℕ) (s : Status) (before after : Outside) → TellsLog before script → RunsAudit script s before after
    → TellsFaults s before after → NoneFailed before after → IsDone s
audit_done script s before after valid runs told none =
    audit_says s (valid.script.texts script) valid.bytes before after valid.script.good valid.good
    (told_of before.source.left valid.bytes (λ bytes. AuditSays s (valid.script.texts script) bytes before after) valid.told
    (told_of before.shelf.texts valid.script.texts (λ texts. ForSome before.source.left (λ bytes. AuditSays s (texts script) bytes before after)) valid.script.told runs.says))
    told none
