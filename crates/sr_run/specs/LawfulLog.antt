-- A printed log whose lines are lawful.
use Rattle.std.specs.Prelude.{◌≡◌, ℕ, List}
use Rattle.sr_frame.specs.declared.skip.Skip.{Skip}
use Rattle.sr_law.specs.declared.line.Line.{Line}
use Rattle.sr_law.specs.Lawful.{IsLawful}
use Rattle.sr_law.specs.Laws.{ConnectionsKeepServers, OpeningsFollowSwitches}
use Rattle.sr_law.specs.Setup.{SetupView}
use Rattle.sr_text.specs.LineText.{log_text}

-- A text is that of these skipped records and of some lines, and the lines are lawful for a setup. So the packets of an open connection go to
-- the server of its opening, and a connection that is opened after a switch uses that pool or a later one.
pub record IsLawfulLog (setup : SetupView) (skips : List (ℕ × Skip)) (text : List ℕ) : Type 0 where
  pub lines : List Line
  pub printed : text ≡ log_text skips lines
  pub lawful : IsLawful setup lines
  pub kept : ConnectionsKeepServers lines
  pub newer : OpeningsFollowSwitches lines
