-- What a demonstration comes to.
use Rattle.std.specs.Prelude.{◌≡◌, ℕ, ◌<◌, List, length, reverse, count_by, None, Option, Ok}
use Rattle.sr_audit.specs.Counts.{is_switch, openings_in}
use Rattle.sr_base.specs.Key.{KeyView}
use Rattle.sr_capture.specs.Capture.{capture_of}
use Rattle.sr_capture.specs.Records.{Records}
use Rattle.sr_demo.specs.Script.{demo_script}
use Rattle.sr_demo.specs.declared.demo.Demonstration.{Demonstration}
use Rattle.sr_gen.specs.Capture.{capture_of as made_of}
use Rattle.sr_law.specs.declared.line.Line.{Line}
use Rattle.sr_played.specs.Captured.{played_packets}
use Rattle.sr_played.specs.Lines.{AreRunLines}
use Rattle.sr_scripted.specs.Played.{Replays}

-- the last change is due with the packet after so many
abbrev pub packets_before_last_change : ℕ
packets_before_last_change = 180000

-- The capture of so many packets that is made from the number has a record for each; these are its lines, replayed by the
-- script of the demonstration, as `replay` makes them: lawful, settled, and with rare verdicts for their reasons alone; with
-- this key waited for in the end, if with any.
pub record IsDemonstrated (number packets : ℕ) (awaited : Option KeyView) (lines : List Line) : Type 0 where
  pub records : Records
  pub taken : capture_of (made_of number packets) ≡ Ok records
  pub whole : length records.frames ≡ packets
  pub replays : Replays demo_script (played_packets demo_script records) lines awaited
  pub told : AreRunLines demo_script (played_packets demo_script records) awaited lines
  -- Where all changes come due, and nothing is waited for, none is refused: each of the twelve has its switch.
  pub switches : awaited ≡ None → packets_before_last_change < packets → count_by is_switch lines ≡ 12

-- so it is of some lines; and the counts are of the records, of the openings among the lines and of the switches
pub record Demonstrates (number packets : ℕ) (d : Demonstration) : Type 0 where
  pub lines : List Line
  pub run : IsDemonstrated number packets d.awaited lines
  pub records_counted : d.packets ≡ packets
  pub openings_counted : d.opened ≡ openings_in (reverse lines)
  pub switches_counted : d.switched ≡ count_by is_switch lines
