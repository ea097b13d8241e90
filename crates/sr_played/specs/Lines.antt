-- What is true of the lines of a played capture.
use Rattle.std.specs.Prelude.{◌≡◌, ℕ, ◌<◌, ◌≤◌, List, [], length, None, Option, Ok, count_by}
use Rattle.sr_audit.specs.Counts.{is_switch}
use Rattle.sr_base.specs.Key.{KeyView}
use Rattle.sr_capture.specs.Capture.{capture_of}
use Rattle.sr_capture.specs.Records.{Records}
use Rattle.sr_inv_ends.specs.Laws.{SettledFor}
use Rattle.sr_inv_entered.specs.Entered.{AreTakable, given}
use Rattle.sr_inv_final.specs.Rest.{setup_with}
use Rattle.sr_law.specs.Lawful.{IsLawful}
use Rattle.sr_law.specs.Laws.{ConnectionsKeepServers, OpeningsFollowSwitches}
use Rattle.sr_law.specs.Settled.{due_gives}
use Rattle.sr_law.specs.declared.line.Line.{Line}
use Rattle.sr_law_causes.specs.Plain.{EachHasOneLine, HeldHaveOneAnswer, VersionsAreFree}
use Rattle.sr_law_causes.specs.Rare.{HasFreeRows, HasNone, finds_no_place, is_full_on, reports_on, waits_for_update}
use Rattle.sr_played.specs.Captured.{last_time, played_packets, script_setup, setup_for}
use Rattle.sr_rounds.specs.declared.timed.Timed.{Timed}
use Rattle.sr_script.specs.Fitting.{IsFitting}
use Rattle.sr_script.specs.Spelled.{Spelled}
use Rattle.sr_scripted.specs.Config.{config_of}
use Rattle.sr_scripted.specs.Played.{AreSettled}

-- The lines of a run of these packets by a script, which ends with this key waited for, if with any.
pub record AreRunLines (s : Spelled) (packets : List Timed) (awaited : Option KeyView) (lines : List Line) : Type 0 where
  -- They are lawful: so the packets of an open connection go to the server of its opening, a connection that is opened after a
  -- switch uses that pool or a later one, a version is given again only when nothing holds it, and each packet has one line, and
  -- where that says that it is held one answer.
  pub lawful : IsLawful (setup_for s packets) lines
  pub kept : ConnectionsKeepServers lines
  pub newer : OpeningsFollowSwitches lines
  pub free : VersionsAreFree (length (setup_for s packets).pools) lines
  pub once : EachHasOneLine (setup_for s packets).packets lines
  pub answered : HeldHaveOneAnswer lines
  -- Each change of a pool whose time had come when the last round of the packets began was made or refused, once, in the
  -- script's order, and the last update is over; each server whose time had come was taken down, and no other; each open
  -- connection has a place, or there is none for it; no sweep is due, and no connection is left that was quiet for so many.
  -- Where an update waits for a key, the first so many of these changes were, and the update of the last of them is under way;
  -- all else holds, the key is open, and each row of its group has an entry.
  pub settled : SettledFor (script_setup s) s.changes (last_time s packets) awaited lines
  -- Where nothing is waited for, and fewer changes of pools were due than there are versions, none was refused: each has its switch.
  pub switches : awaited ≡ None → length (due_gives (last_time s packets) [] 0 s.changes) < s.shape.versions
      → count_by is_switch lines ≡ length (due_gives (last_time s packets) [] 0 s.changes)
  -- A pipe with no more openers and Ending packets than its ring has cells has no line of a full ring.
  pub rings : (pipe : ℕ) → count_by (reports_on pipe) lines ≤ s.shape.ring → HasNone (is_full_on pipe) lines
  -- Where no change of a pool was due, no packet was held by an update.
  pub updates : due_gives (last_time s packets) [] 0 s.changes ≡ [] → HasNone waits_for_update lines
  -- Where at each line at most three rows of each group are held, no connection was answered that there is no place for it.
  pub rows : HasFreeRows lines → HasNone finds_no_place lines

-- Lines of a run over what is kept of a capture are such lines, if they are settled, and lawful where the machine can take the
-- packets.
abbrev pub PlayedLinesHold : Type 0
PlayedLinesHold =
    (s : Spelled) (bytes : List ℕ) (records : Records) (lines : List Line) (awaited : Option KeyView) → IsFitting s → capture_of bytes ≡ Ok records
    → (AreTakable (config_of s) (played_packets s records) → IsLawful (setup_with (config_of s) (given (played_packets s records))) lines)
    → AreSettled s (played_packets s records) lines awaited
    → AreRunLines s (played_packets s records) awaited lines
