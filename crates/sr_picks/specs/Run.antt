-- A whole run by picks: round after round, and then the controller's turns until nothing is left to do.
use Rattle.std.specs.Prelude.{◌≡◌, ℕ, ◌-◌, ◌==◌, List, [], ◌∷◌, drop, filter, map, take}
use Rattle.std.specs.List.{range_with_len}
use Rattle.sr_base.specs.declared.packet.Packet.{Packet}
use Rattle.sr_hash.specs.Uses.{pipe_number}
use Rattle.sr_machine.specs.Config.{Config}
use Rattle.sr_machine.specs.Core.{Core, opening}
use Rattle.sr_machine.specs.Settling.{Settles}
use Rattle.sr_machine.specs.declared.event.Event.TheVariants.{Due}
use Rattle.sr_machine.specs.declared.settled.Settled.{Settled}
use Rattle.sr_picks.specs.Play.{ActsTo, Play, PlaysTo}
use Rattle.sr_picks.specs.Turn.{after}
use Rattle.sr_rounds.specs.Rounds.{rounds_of}
use Rattle.sr_rounds.specs.declared.round.Round.{Round}
use Rattle.sr_rounds.specs.declared.timed.Timed.{Timed}

-- the packets of a round
abbrev pub packets_in : List Timed → Round → List Packet
packets_in packets r = map (λ p. p.packet) (take (r.to - r.from) (drop r.from packets))

-- what each of so many pipes handles of these: the packets of the keys whose hash names it, in order
abbrev pub shares_of : ℕ → List Packet → List (List Packet)
shares_of pipes packets = map (λ i. filter (λ p. pipe_number p.key pipes == i) packets) (range_with_len 0 pipes)

-- a round begins: the time of its window is told, and the packets are shared
abbrev pub round_begun : List Timed → Round → ℕ → Core → Play
round_begun packets r x s = record {
  state = after (Due r.start_ms) s;
  shares = shares_of s.config.layout.shape.pipes (packets_in packets r);
  turns = 0;
  waits = 0;
  generator = x;
}

-- these rounds lead from a state and a generator to others
abbrev pub Rounds : List Timed → List Round → ℕ → Core → ℕ → Core → Type 0
Rounds packets [] x s y t = (y ≡ x) × (t ≡ s)
Rounds packets (r ∷ rest) x s y t =
    (q : Play) × PlaysTo (round_begun packets r x s) q × Rounds packets rest q.generator q.state y t

-- The run of these packets by the picks of a seed: all rounds, and then turns until they end so, in this state.
pub record RunsByPicks (k : Config) (seed : ℕ) (packets : List Timed) (r : Settled) (t : Core) : Type 0 where
  -- the generator after the last round
  pub generator : ℕ
  -- the state after it
  pub state : Core
  pub rounds : Rounds packets (rounds_of k.layout.shape.window_ms packets) seed (opening k) generator state
  pub settles : Settles state r t

-- ---- whoever acts next

-- these rounds lead from a state to another, whoever acts next in them; no act asks the generator
abbrev pub RoundsByActs : List Timed → List Round → Core → Core → Type 0
RoundsByActs packets [] s t = t ≡ s
RoundsByActs packets (r ∷ rest) s t = (q : Play) × ActsTo (round_begun packets r 0 s) q × RoundsByActs packets rest q.state t

-- A run of these packets round by round, whoever acts next in each: all rounds, and then turns until they end so, in this state.
pub record RunsByActs (k : Config) (packets : List Timed) (r : Settled) (t : Core) : Type 0 where
  -- the state after the last round
  pub state : Core
  pub rounds : RoundsByActs packets (rounds_of k.layout.shape.window_ms packets) (opening k) state
  pub settles : Settles state r t
