-- What is left of a script's run: by the picks of a seed, or in whatever order.
use Rattle.std.specs.Prelude.{◌≡◌, ℕ, List, Option, None, Some}
use Rattle.sr_base.specs.Key.{KeyView}
use Rattle.sr_inv_ends.specs.Laws.{SettledFor, last_clock}
use Rattle.sr_inv_facts.specs.InCauses.{setup_of}
use Rattle.sr_inv_entered.specs.Entered.{AreTakable, given}
use Rattle.sr_inv_final.specs.Rest.{AreIdle, setup_with}
use Rattle.sr_law.specs.Lawful.{IsLawful}
use Rattle.sr_law.specs.declared.line.Line.{Line}
use Rattle.sr_machine.specs.Core.{Core, Reaches, lines_of}
use Rattle.sr_machine.specs.Settling.{Settles}
use Rattle.sr_machine.specs.declared.settled.Settled.{Settled}
use Rattle.sr_machine.specs.declared.settled.Settled.TheVariants.{Quiet, Waiting}
use Rattle.sr_picks.specs.Run.{RunsByActs, RunsByPicks}
use Rattle.sr_rounds.specs.declared.timed.Timed.{Timed}
use Rattle.sr_script.specs.Spelled.{Spelled}
use Rattle.sr_scripted.specs.Config.{config_of}

-- how the turns after the last round end: an update waits for this key, or nothing is left to do
abbrev pub settled_for : Option KeyView → Settled
settled_for None = Quiet
settled_for (Some key) = Waiting key

-- the run by picks of these packets leads from the beginning of the script's machine to a state with these lines, by their ticks; and its turns end
-- with this key waited for, if with any
pub record LeadsTo (s : Spelled) (seed : ℕ) (packets : List Timed) (lines : List Line) (awaited : Option KeyView) : Type 0 where
  pub state : Core
  pub runs : RunsByPicks (config_of s) seed packets (settled_for awaited) state
  pub all : lines ≡ lines_of state

-- the lines are settled for the script's changes and the clock of the last round, or, where an update waits for this key, but for the changes of pools
-- and the last update, and tell why it waits
abbrev pub AreSettled : Spelled → List Timed → List Line → Option KeyView → Type 0
AreSettled s packets lines awaited = SettledFor (setup_of (config_of s)) s.changes (last_clock (config_of s) packets) awaited lines

-- The run leads to these lines. They are settled; and they are lawful for the script's shape, servers and pools and the packets, where each packet is to a virtual address of
-- the script, and there are fewer than 2^32.
pub record Plays (s : Spelled) (seed : ℕ) (packets : List Timed) (lines : List Line) (awaited : Option KeyView) : Type 0 where
  pub leads : LeadsTo s seed packets lines awaited
  pub settled : AreSettled s packets lines awaited
  pub lawful : AreTakable (config_of s) packets → IsLawful (setup_with (config_of s) (given packets)) lines

-- ---- in whatever order

-- the run of these packets round by round, whoever acts next, leads to a state with these lines; and its turns end with this key waited for
pub record ActsLeadTo (s : Spelled) (packets : List Timed) (lines : List Line) (awaited : Option KeyView) : Type 0 where
  pub state : Core
  pub runs : RunsByActs (config_of s) packets (settled_for awaited) state
  pub all : lines ≡ lines_of state

-- Some events lead from the beginning of the script's machine to a state with these lines, by their ticks, in which no packet is in hand. The last
-- of them are the controller's turns until nothing is left to do, and these end with this key waited for, if with any. Nothing is said of the order
-- of the others.
pub record Ends (s : Spelled) (lines : List Line) (awaited : Option KeyView) : Type 0 where
  -- where the turns begin
  pub last : Core
  pub before : Reaches (config_of s) last
  -- where they end
  pub state : Core
  pub turns : Settles last (settled_for awaited) state
  pub reached : Reaches (config_of s) state
  pub idle : AreIdle state
  pub all : lines ≡ lines_of state

-- The machine comes to these lines. They are lawful for the script's shape, servers and pools and the packets, where each packet is to a virtual
-- address of the script, and there are fewer than 2^32: so each packet has entered once and has its final line.
pub record Replays (s : Spelled) (packets : List Timed) (lines : List Line) (awaited : Option KeyView) : Type 0 where
  pub ends : Ends s lines awaited
  pub settled : AreSettled s packets lines awaited
  pub lawful : AreTakable (config_of s) packets → IsLawful (setup_with (config_of s) (given packets)) lines
