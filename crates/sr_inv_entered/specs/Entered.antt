-- Which packets enter in a run round by round, and so in one by picks.
use Rattle.std.specs.List.{AllByRecursion}
use Rattle.std.specs.Prelude.{◌≡◌, ℕ, ◌<◌, ◌^◌, true, List, length, map}
use Rattle.sr_base.specs.Layout.{IsLayout}
use Rattle.sr_base.specs.declared.packet.Packet.{Packet}
use Rattle.sr_inv_facts.specs.Fitted.{IsFitted}
use Rattle.sr_inv_final.specs.Reached.{IsReached, entered_in}
use Rattle.sr_inv_final.specs.Rest.{setup_with}
use Rattle.sr_inv_runs.specs.Runs.{ArePackets}
use Rattle.sr_law.specs.Final.{meets_final, same_packets}
use Rattle.sr_law.specs.Lawful.{IsLawful}
use Rattle.sr_machine.specs.Config.{Config}
use Rattle.sr_machine.specs.Core.{Core, lines_of, printed}
use Rattle.sr_machine.specs.Pipe.{has_vip}
use Rattle.sr_machine.specs.declared.settled.Settled.{Settled}
use Rattle.sr_picks.specs.Run.{RunsByActs, RunsByPicks}
use Rattle.sr_rounds.specs.declared.timed.Timed.{Timed}

-- the packets that a run is given
abbrev pub given : List Timed → List Packet
given packets = map (λ p. p.packet) packets

-- a packet that a pipe may take: the layout has its virtual address
abbrev pub MayEnter : Config → Packet → Type 0
MayEnter k packet = has_vip k.layout packet ≡ true

-- What a run can take: each packet may enter, and there are fewer than 2^32.
pub record AreTakable (k : Config) (packets : List Timed) : Type 0 where
  pub each : AllByRecursion (MayEnter k) (given packets)
  pub few : length packets < 2 ^ 32

-- Whoever acts next, the lines of a run round by round are lawful for what the machine was made for and these packets.
abbrev pub ActsAreLawful : Type 0
ActsAreLawful =
    (k : Config) (packets : List Timed) (r : Settled) (t : Core) → IsFitted k → ArePackets packets → AreTakable k packets
    → RunsByActs k packets r t
    → IsLawful (setup_with k (given packets)) (lines_of t)

-- events reach the state that a run by picks ends in
abbrev pub PicksAreReached : Type 0
PicksAreReached =
    (k : Config) (seed : ℕ) (packets : List Timed) (r : Settled) (t : Core) → ArePackets packets → RunsByPicks k seed packets r t
    → IsReached k t

-- whatever events reach it, these packets enter with them, each as often as it is given
abbrev pub PicksEnterAll : Type 0
PicksEnterAll =
    (k : Config) (seed : ℕ) (packets : List Timed) (r : Settled) (t : Core) → IsLayout k.layout → AreTakable k packets
    → RunsByPicks k seed packets r t
    → (h : IsReached k t) → same_packets (entered_in h.events) (given packets) ≡ true

-- so its lines are those of a whole run of them
abbrev pub PicksAreFinal : Type 0
PicksAreFinal =
    (k : Config) (seed : ℕ) (packets : List Timed) (r : Settled) (t : Core) → IsFitted k → ArePackets packets → AreTakable k packets
    → RunsByPicks k seed packets r t
    → meets_final (setup_with k (given packets)) (printed t) ≡ true

-- and they are lawful for what the machine was made for and these packets
abbrev pub PicksAreLawful : Type 0
PicksAreLawful =
    (k : Config) (seed : ℕ) (packets : List Timed) (r : Settled) (t : Core) → IsFitted k → ArePackets packets → AreTakable k packets
    → RunsByPicks k seed packets r t
    → IsLawful (setup_with k (given packets)) (lines_of t)
