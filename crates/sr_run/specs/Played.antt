-- What the commands `replay` and `steps` do: a capture is played by a script, in threads, or step by step as a generator picks.
use Rattle.std.specs.Prelude.{◌≡◌, ◌⊎◌, ℕ, List, [], Option, Some, None, Ok, Err}
use Rattle.std.specs.Option.{ForSome}
use Rattle.sr_base.specs.Key.{KeyView}
use Rattle.sr_capture.specs.Capture.{capture_of}
use Rattle.sr_capture.specs.Records.{Records}
use Rattle.sr_capture.specs.declared.captured.Captured.{Captured}
use Rattle.sr_capture.specs.declared.capture_refusal.CaptureRefusal.{CaptureRefusal}
use Rattle.sr_frame.specs.declared.skip.Skip.{Skip}
use Rattle.sr_io.specs.Faults.{Rose}
use Rattle.sr_io.specs.Sink.{SinkKnown, Adds, AddsFront, Writes}
use Rattle.sr_io.specs.Source.{SourceKnown}
use Rattle.sr_io.specs.declared.sink.Put.TheVariants as put
use Rattle.sr_law.specs.declared.line.Line.{Line}
use Rattle.sr_pcap.specs.declared.begin_refusal.BeginRefusal.{BeginRefusal}
use Rattle.sr_played.specs.Captured.{played_packets, played_skips}
use Rattle.sr_played.specs.Lines.{AreRunLines}
use Rattle.sr_rounds.specs.declared.timed.Timed.{Timed}
use Rattle.sr_script.specs.Fault.{fault_of}
use Rattle.sr_script.specs.Spelled.{Spelled}
use Rattle.sr_script.specs.declared.refusal.ScriptRefusal.{ScriptRefusal}
use Rattle.sr_scripted.specs.Played.{Plays, Replays}
use Rattle.sr_text.specs.LineText.{log_text}
use Rattle.sr_run.specs.Capture.{header_refusal}
use Rattle.sr_run.specs.Outside.{Outside}
use Rattle.sr_run.specs.ScriptText.{IsScript, IsNoScript}
use Rattle.sr_run.specs.declared.status.Status.{Status}
use Rattle.sr_run.specs.declared.way.Way.{Way}
use Rattle.sr_run.specs.declared.way.Way.TheVariants as ways
use Rattle.sr_run.specs.declared.status.Status.TheVariants.{Done, Script, Capture, ReadFault, WriteFault, Memory, Waiting}

-- What makes the lines of a log from a script and packets: the picks of a seed lead to the state of which they are the lines, or some events do, of
-- whose order nothing is said.
abbrev pub MadeBy : Way → Spelled → List Timed → List Line → Option KeyView → Type 0
MadeBy (ways.Picked seed) s packets lines awaited = Plays s seed packets lines awaited
MadeBy ways.OnThreads s packets lines awaited = Replays s packets lines awaited

-- A log of the skipped records, and of the lines, by their ticks, of a state of the script's machine to which the packets lead in this way; with this
-- key waited for in the end, if with any.
pub record IsLogOf (s : Spelled) (way : Way) (skips : List (ℕ × Skip)) (packets : List Timed) (awaited : Option KeyView) (log : List ℕ) : Type 0 where
  pub lines : List Line
  pub plays : MadeBy way s packets lines awaited
  pub printed : log ≡ log_text skips lines

-- how a run ends once its log is printed: a refusal of the capture comes before a key that an update waits for
abbrev pub status_after : Option CaptureRefusal → Option KeyView → Status
status_after (Some why) awaited = Capture why
status_after None (Some key) = Waiting key
status_after None None = Done

-- ---- a script and what was read of a capture

-- the log of what was read of a capture; it ended so, and the run with this key waited for
abbrev pub PrintsLog : Spelled → Way → List (ℕ × Skip) → List Timed → Option CaptureRefusal → Status → SinkKnown → SinkKnown → Type 0
PrintsLog s way skips packets ending status before after = (awaited : Option KeyView) × (log : List ℕ) × IsLogOf s way skips packets awaited log
    × (status ≡ status_after ending awaited) × Writes put.All before after log

-- what each status says of it
abbrev pub PlaysCaptured : Status → Spelled → Way → Captured Timed → SinkKnown → SinkKnown → Type 0
PlaysCaptured Done s way captured before after =
    PrintsLog s way captured.skips.items captured.packets.items captured.ending Done before after
PlaysCaptured (Capture why) s way captured before after =
    PrintsLog s way captured.skips.items captured.packets.items captured.ending (Capture why) before after
PlaysCaptured (Waiting key) s way captured before after =
    PrintsLog s way captured.skips.items captured.packets.items captured.ending (Waiting key) before after
PlaysCaptured WriteFault s way captured before after =
    (awaited : Option KeyView) × (log : List ℕ) × IsLogOf s way captured.skips.items captured.packets.items awaited log × Writes put.Failed before after log
PlaysCaptured Memory s way captured before after = after ≡ before
PlaysCaptured status s way captured before after = ⊥

-- ---- a script and the bytes of a capture

-- The bytes are a capture with whole records that ended so, and this is the log of their run: the skipped records, and the lines, by their ticks, of a state of the script's machine to which
-- the packets lead in this way, with this key waited for in the end, if with any. Whatever the order, these lines are lawful and settled, and have rare verdicts for their
-- reasons alone (`AreRunLines`).
pub record IsRunOf (s : Spelled) (way : Way) (bytes : List ℕ) (ending : Option CaptureRefusal) (awaited : Option KeyView) (log : List ℕ) : Type 0 where
  pub records : Records
  pub taken : capture_of bytes ≡ Ok records
  pub ended : records.ending ≡ ending
  pub lines : List Line
  pub plays : MadeBy way s (played_packets s records) lines awaited
  pub told : AreRunLines s (played_packets s records) awaited lines
  pub printed : log ≡ log_text (played_skips s records) lines

-- the whole capture was read, and the log of its run was printed
abbrev pub PlaysAll : Option KeyView → Spelled → Way → List ℕ → SourceKnown → SinkKnown → SinkKnown → Type 0
PlaysAll awaited s way bytes source before after =
    (log : List ℕ) × IsRunOf s way bytes None awaited log × (source.left ≡ Some []) × Adds before.taken after.taken log

-- the header was refused, and nothing was printed
abbrev pub RefusesHeader : CaptureRefusal → List ℕ → SinkKnown → SinkKnown → Type 0
RefusesHeader why bytes before after =
    (header : BeginRefusal) × (capture_of bytes ≡ Err header) × (why ≡ header_refusal header) × Adds before.taken after.taken []

-- a record was refused, and the log of the run of the whole records before it was printed
abbrev pub RefusesRecord : CaptureRefusal → Spelled → Way → List ℕ → SinkKnown → SinkKnown → Type 0
RefusesRecord why s way bytes before after =
    (awaited : Option KeyView) × (log : List ℕ) × IsRunOf s way bytes (Some why) awaited log × Adds before.taken after.taken log

-- the sink failed after a prefix of the log; and a capture that isn't refused was read to its end
abbrev pub CutsLog : Spelled → Way → List ℕ → SourceKnown → SinkKnown → SinkKnown → Type 0
CutsLog s way bytes source before after = (ending : Option CaptureRefusal) × (awaited : Option KeyView) × (log : List ℕ)
    × IsRunOf s way bytes ending awaited log × (ending ≡ None → source.left ≡ Some []) × AddsFront before.taken after.taken log

-- What each status says of a script, a way of playing and the bytes of a capture, of what the source has left of them, and of what the sink took.
abbrev pub PlaysCapture : Status → Spelled → Way → List ℕ → SourceKnown → SinkKnown → SinkKnown → Type 0
PlaysCapture Done s way bytes source before after = PlaysAll None s way bytes source before after
PlaysCapture (Waiting key) s way bytes source before after = PlaysAll (Some key) s way bytes source before after
PlaysCapture (Capture why) s way bytes source before after =
    RefusesHeader why bytes before after ⊎ RefusesRecord why s way bytes before after
PlaysCapture ReadFault s way bytes source before after = Adds before.taken after.taken []
PlaysCapture WriteFault s way bytes source before after = CutsLog s way bytes source before after
PlaysCapture Memory s way bytes source before after = Adds before.taken after.taken []
PlaysCapture status s way bytes source before after = ⊥

-- the statuses with which a run ends once it has the script
abbrev pub EndsCapture : Status → Type 0
EndsCapture Done = Unit {0}
EndsCapture (Capture why) = Unit {0}
EndsCapture ReadFault = Unit {0}
EndsCapture WriteFault = Unit {0}
EndsCapture Memory = Unit {0}
EndsCapture (Waiting key) = Unit {0}
EndsCapture status = ⊥

-- ---- the command

-- the statuses with which such a command ends: it reads a script and a capture, and knows no rules of lines
abbrev pub EndsPlay : Status → Type 0
EndsPlay (Script refusal) = Unit {0}
EndsPlay status = EndsCapture status

-- the name has a script, and the capture is played by it
abbrev pub PlaysBy : Status → Option (List ℕ) → Way → List ℕ → SourceKnown → SinkKnown → SinkKnown → Type 0
PlaysBy status text way bytes source before after = (s : Spelled) × IsScript text s × PlaysCapture status s way bytes source before after

-- What each status says of the text that the script's name has, of the way of playing, of the bytes of the capture, and of what is known before and after. A
-- read fault is one of the shelf, or one of the source, of which nothing is read unless the name has a script.
abbrev pub PlaySays : Status → Option (List ℕ) → Way → List ℕ → Outside → Outside → Type 0
PlaySays Done text way bytes before after = PlaysBy Done text way bytes after.source before.sink after.sink
PlaySays (Waiting key) text way bytes before after = PlaysBy (Waiting key) text way bytes after.source before.sink after.sink
PlaySays (Capture why) text way bytes before after = PlaysBy (Capture why) text way bytes after.source before.sink after.sink
PlaySays WriteFault text way bytes before after = PlaysBy WriteFault text way bytes after.source before.sink after.sink
PlaySays (Script refusal) text way bytes before after = IsNoScript text (fault_of refusal) × Adds before.sink.taken after.sink.taken []
PlaySays ReadFault text way bytes before after =
    Adds before.sink.taken after.sink.taken []
    × (Rose before.shelf.faults after.shelf.faults ⊎ ((s : Spelled) × IsScript text s × Rose before.source.faults after.source.faults))
PlaySays Memory text way bytes before after = Adds before.sink.taken after.sink.taken []
PlaySays status text way bytes before after = ⊥

-- What such a command comes to: its statuses, for every source and shelf; what they say, where the shelf tells its texts and the source its
-- bytes; and when a script is refused, where the shelf alone tells.
pub record RunsPlay (script : List ℕ) (way : Way) (status : Status) (before after : Outside) : Type 0 where
  pub ends : EndsPlay status
  pub says : ForSome before.shelf.texts (λ texts. ForSome before.source.left (λ bytes. PlaySays status (texts script) way bytes before after))
  pub refuses : (refusal : ScriptRefusal) → ForSome before.shelf.texts (λ texts. status ≡ Script refusal → IsNoScript (texts script) (fault_of refusal))
