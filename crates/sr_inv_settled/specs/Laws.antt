-- What is proved of the lines of a state in which nothing is left to do.
use Rattle.std.specs.Prelude.{◌≡◌, ℕ, true, false, List, [], Option, reverse, take}
use Rattle.sr_base.specs.Key.{KeyView}
use Rattle.sr_base.specs.declared.change.Change.{Change}
use Rattle.sr_inv_facts.specs.Fitted.{IsFitted}
use Rattle.sr_inv_facts.specs.InCauses.{setup_of}
use Rattle.sr_inv_final.specs.Reached.{IsReached}
use Rattle.sr_inv_settled.specs.Quiet.{IsQuiet, IsWaiting}
use Rattle.sr_law.specs.Opening.{is_open}
use Rattle.sr_law.specs.Rows.{is_group_full}
use Rattle.sr_law.specs.Settled.{due_gives, gives_settled, is_settled, is_settled_waiting, standing, update_settled}
use Rattle.sr_law.specs.Setup.{SetupView}
use Rattle.sr_law.specs.declared.line.Line.{Line}
use Rattle.sr_machine.specs.Config.{Config}
use Rattle.sr_machine.specs.Core.{Core, lines_of}

-- Where nothing is left to do, the lines are settled for the script's changes and the clock.
abbrev pub QuietIsSettled : Type 0
QuietIsSettled =
    (k : Config) (s : Core) → IsFitted k → IsReached k s → IsQuiet s
    → is_settled (setup_of k) k.changes s.controller.clock (lines_of s) ≡ true

-- By these lines, of which the newest stands first, the last update is under way, and the key is open and has no place: no Placed line of it stands, and each row of its group
-- has an entry.
pub record WaitsFor (setup : SetupView) (lines : List Line) (key : KeyView) : Type 0 where
  pub begun : update_settled setup lines ≡ false
  pub opened : is_open lines key ≡ true
  pub unplaced : standing key [] lines ≡ []
  pub full : is_group_full setup.shape lines key ≡ true

-- the first so many of the due changes of pools were made or refused, each once, in the script's order, and no others
pub record FirstSettled (setup : SetupView) (changes : List Change) (clock : Option ℕ) (lines : List Line) : Type 0 where
  pub count : ℕ
  pub told : gives_settled setup [] (take count (due_gives clock [] 0 changes)) lines ≡ true

-- Where an update waits for a key, a printed list is settled but for the changes of pools that come after that update, and for the last update; and it tells why the update waits.
pub record SettledWaiting (setup : SetupView) (changes : List Change) (clock : Option ℕ) (lines : List Line) (key : KeyView) : Type 0 where
  pub settled : is_settled_waiting setup changes clock lines ≡ true
  pub first : FirstSettled setup changes clock lines
  pub waits : WaitsFor setup (reverse lines) key

-- the lines of such a state are
abbrev pub WaitingIsSettled : Type 0
WaitingIsSettled =
    (k : Config) (s : Core) (key : KeyView) → IsFitted k → IsReached k s → IsWaiting s key
    → SettledWaiting (setup_of k) k.changes s.controller.clock (lines_of s) key
