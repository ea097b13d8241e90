-- What the program ends with.
use Rattle.std.specs.Prelude.{ℕ, List, [], ◌∷◌, ◌++◌, codes, string_bytes}
use Rattle.std.specs.Fmt.{decimal}
use Rattle.sr_law.specs.declared.clause.Clause.{Clause}
use Rattle.sr_law.specs.declared.clause.Clause.TheVariants as clause
use Rattle.sr_script.specs.Why.{word_of}
use Rattle.sr_text.specs.Fields.{key_text}
use Rattle.sr_text.specs.declared.log_refusal.LogRefusal.{LogRefusal}
use Rattle.sr_text.specs.declared.log_refusal.LogRefusal.TheVariants as log
use Rattle.sr_run.specs.declared.status.Status.{Status}
use Rattle.sr_run.specs.declared.status.Status.TheVariants.{Done, Usage, Script, Capture, ReadFault, WriteFault, Memory, Waiting, Breach}
use Rattle.sr_capture.specs.declared.capture_refusal.CaptureRefusal.{CaptureRefusal}
use Rattle.sr_capture.specs.declared.capture_refusal.CaptureRefusal.TheVariants.{Cut, TooLong, TooMany, Block, Magic, Major, LinkType}

-- the exit code
abbrev pub code_of : Status → ℕ
code_of Done = 0
code_of Usage = 1
code_of (Script refusal) = 2
code_of (Capture why) = 3
code_of ReadFault = 4
code_of WriteFault = 5
code_of Memory = 6
code_of (Waiting key) = 7
code_of (Breach line what) = 8

-- how a run ends where a log can't be read
abbrev pub status_of_log : LogRefusal → Status
status_of_log (log.BadLine number) = Breach number clause.Text
status_of_log log.ReadFault = ReadFault
status_of_log log.Memory = Memory

-- why a capture was refused, before what follows
abbrev pub capture_words : CaptureRefusal → List ℕ → List ℕ
capture_words (Cut offset) rest = codes "cut at " ++ (decimal offset ++ rest)
capture_words (TooLong offset) rest = codes "too long at " ++ (decimal offset ++ rest)
capture_words (TooMany offset) rest = codes "too many at " ++ (decimal offset ++ rest)
capture_words (Block offset) rest = codes "block at " ++ (decimal offset ++ rest)
capture_words Magic rest = codes "magic" ++ rest
capture_words Major rest = codes "major" ++ rest
capture_words LinkType rest = codes "link type" ++ rest

-- where a script is at fault: nothing where the whole text is
abbrev pub path_words : List ℕ → List ℕ
path_words [] = 10 ∷ []
path_words (byte ∷ path) = (32 ∷ byte ∷ path) ++ (10 ∷ [])

-- what a line breaks
abbrev pub clause_word : Clause → List ℕ
clause_word clause.Text = codes "text"
clause_word clause.Order = codes "order"
clause_word clause.Server = codes "server"
clause_word clause.Same = codes "same"
clause_word clause.Newer = codes "newer"
clause_word clause.Number = codes "number"
clause_word clause.Cause = codes "cause"
clause_word clause.Retire = codes "retire"
clause_word clause.Final = codes "final"

-- the line on standard error
unfoldable pub status_text : Status → List ℕ
status_text Done = []
status_text Usage = codes "silkroad: usage: one VIP SERVERS, replay SCRIPT, audit SCRIPT, make N PACKETS, demo N, steps SCRIPT SEED\n"
status_text (Script refusal) = (codes "silkroad: script: " ++ word_of refusal.why) ++ path_words (string_bytes refusal.path)
status_text (Capture why) = codes "silkroad: capture: " ++ capture_words why (10 ∷ [])
status_text ReadFault = codes "silkroad: read fault\n"
status_text WriteFault = codes "silkroad: write fault\n"
status_text Memory = codes "silkroad: no memory\n"
status_text (Waiting key) = codes "silkroad: waiting for " ++ key_text key (10 ∷ [])
status_text (Breach line what) = codes "silkroad: audit: line " ++ (decimal line ++ (codes " breaks " ++ (clause_word what ++ (10 ∷ []))))
