-- What the command `demo` does.
use Rattle.std.specs.Prelude.{ℕ, List, [], ◌++◌, codes, count_by, reverse, Option, Some, None}
use Rattle.std.specs.Fmt.{decimal}
use Rattle.sr_audit.specs.Counts.{is_switch, openings_in}
use Rattle.sr_base.specs.Key.{KeyView}
use Rattle.sr_demo.specs.Demo.{IsDemonstrated}
use Rattle.sr_io.specs.Sink.{SinkKnown, Adds, AddsFront}
use Rattle.sr_law.specs.declared.line.Line.{Line}
use Rattle.sr_run.specs.declared.status.Status.{Status}
use Rattle.sr_run.specs.declared.status.Status.TheVariants.{Done, WriteFault, Memory, Waiting}

-- how many packets its capture has
abbrev pub demo_packets : ℕ
demo_packets = 200000

-- how many changes of pools it has
abbrev pub demo_changes : ℕ
demo_changes = 12

-- its four lines, of so many packets, openings and switches
unfoldable pub summary_text : ℕ → ℕ → ℕ → List ℕ
summary_text packets opened switched =
    codes "packets "
    ++ (decimal packets ++ (codes "\nopened " ++ (decimal opened ++ (codes "\nswitched " ++ (decimal switched ++ codes "\nlawful yes\n")))))

-- what is printed of these lines: how many packets were played, how many connections these lines open, and how many switches
-- they tell of
abbrev pub summary_of : List Line → List ℕ
summary_of lines = summary_text demo_packets (openings_in (reverse lines)) (count_by is_switch lines)

-- What was written was that of lines which a demonstration comes to, whatever they are: they are those that `replay` makes,
-- lawful and settled; and where nothing is waited for, each change has its switch. With a key that is waited for they are told too; nothing else comes but a fault of the sink, after a
-- prefix, and want of memory, before anything was written.
abbrev pub RunsDemo : ℕ → Status → SinkKnown → SinkKnown → Type 0
RunsDemo number Done before after =
    (lines : List Line) × IsDemonstrated number demo_packets None lines
    × Adds before.taken after.taken (summary_text demo_packets (openings_in (reverse lines)) demo_changes)
RunsDemo number (Waiting key) before after =
    (lines : List Line) × IsDemonstrated number demo_packets (Some key) lines × Adds before.taken after.taken (summary_of lines)
RunsDemo number WriteFault before after =
    (awaited : Option KeyView) × (lines : List Line) × IsDemonstrated number demo_packets awaited lines × AddsFront before.taken after.taken (summary_of lines)
RunsDemo number Memory before after = Adds before.taken after.taken []
RunsDemo number status before after = ⊥
