-- What is proved of the lines of a run round by round, and so of one by picks.
use Rattle.std.specs.List.{AllByRecursion}
use Rattle.std.specs.Prelude.{ℕ, List}
use Rattle.sr_inv_facts.specs.Fitted.{IsFitted, IsPacket}
use Rattle.sr_inv_facts.specs.InCauses.{setup_of}
use Rattle.sr_inv_facts.specs.Invariant.{Invariant}
use Rattle.sr_law.specs.Lawful.{NoLineBreaks}
use Rattle.sr_law.specs.Laws.{ConnectionsKeepServers, OpeningsFollowSwitches}
use Rattle.sr_law.specs.Retire.{endings_of}
use Rattle.sr_machine.specs.Config.{Config}
use Rattle.sr_machine.specs.Core.{Core, lines_of, printed}
use Rattle.sr_machine.specs.declared.settled.Settled.{Settled}
use Rattle.sr_picks.specs.Run.{RunsByActs, RunsByPicks}
use Rattle.sr_rounds.specs.declared.timed.Timed.{Timed}

-- packets as every value of their type is
abbrev pub ArePackets : List Timed → Type 0
ArePackets packets = AllByRecursion (λ t. IsPacket t.packet) packets

-- Lines that break no clause, where their own Ending lines, later ones too, may support a retirement; so the packets of an open connection go to the server of
-- its opening, and a connection that is opened after a switch uses that pool or a later one.
pub record LinesKeepClauses (k : Config) (s : Core) : Type 0 where
  pub unbroken : NoLineBreaks (setup_of k) (endings_of (printed s)) (lines_of s)
  pub kept : ConnectionsKeepServers (lines_of s)
  pub newer : OpeningsFollowSwitches (lines_of s)

-- whoever acts next, the state that a run round by round ends in meets the invariant, and its lines break no clause
abbrev pub ActsKeepClauses : Type 0
ActsKeepClauses =
    (k : Config) (packets : List Timed) (r : Settled) (t : Core) → IsFitted k → ArePackets packets → RunsByActs k packets r t
    → Invariant t × LinesKeepClauses k t

-- whatever the seed picks, the state that a run by picks ends in meets the invariant, and its lines break no clause
abbrev pub PicksKeepClauses : Type 0
PicksKeepClauses =
    (k : Config) (seed : ℕ) (packets : List Timed) (r : Settled) (t : Core) → IsFitted k → ArePackets packets → RunsByPicks k seed packets r t
    → Invariant t × LinesKeepClauses k t
