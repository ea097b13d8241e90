-- A run by picks is one by acts: no act asks the generator.
use Rattle.std.proofs.Common.{◌≡◌, ◌∙◌, ℕ, zero, suc, ◌==◌, Bool, true, false, List, [], ◌∷◌, ◌++◌, Option, None, Some, refl, ap, slice_get, if◌then◌else◌}
use Rattle.sr_base.specs.declared.packet.Packet.{Packet}
use Rattle.sr_gen.specs.Generator.{next_state}
use Rattle.sr_machine.specs.Config.{Config}
use Rattle.sr_machine.specs.Core.{Core, opening}
use Rattle.sr_machine.specs.declared.settled.Settled.{Settled}
use Rattle.sr_picks.specs.Play.{ActsTo, Play, PlaysTo, act_of, acted, controller_picked, pick, pick_by, picked, pipe_idle, pipe_picked, pipes_of, played, share_of, stepped_by}
use Rattle.sr_picks.specs.Run.{Rounds, RoundsByActs, RunsByActs, RunsByPicks, round_begun}
use Rattle.sr_rounds.specs.declared.round.Round.{Round}
use Rattle.sr_rounds.specs.declared.timed.Timed.{Timed}

-- the play, whatever its generator
abbrev pub bare : Play → Play
bare p = record p { generator = 0 }

stepped_bare : (p : Play) (i : ℕ) (idle : Bool) (share : List Packet) → stepped_by (bare p) i idle share ≡ bare (stepped_by p i idle share)
stepped_bare p i true [] = refl
stepped_bare p i true (packet ∷ rest) = refl
stepped_bare p i false [] = refl
stepped_bare p i false (packet ∷ rest) = refl

act_bare : (p : Play) (i : ℕ) → act_of (bare p) i ≡ bare (act_of p i)
act_bare p i = by (i == pipes_of p)
  where
    by : (b : Bool) → (if b then controller_picked (bare p) else pipe_picked (bare p) i)
        ≡ bare (if b then controller_picked p else pipe_picked p i)
    by true = refl
    by false = stepped_bare p i (pipe_idle (slice_get p.state.pipes i)) (share_of (slice_get p.shares i))

pub acted_on : (first rest : List ℕ) (p : Play) → acted (first ++ rest) p ≡ acted rest (acted first p)
acted_on [] rest p = refl
acted_on (i ∷ first) rest p = acted_on first rest (act_of p i)

-- who was picked
picked_acts : (p : Play) (x : ℕ) (o : Option ℕ) → (actors : List ℕ) × (acted actors (bare p) ≡ bare (pick_by p x o))
picked_acts p x None = ([], refl)
picked_acts p x (Some i) = (i ∷ [], act_bare p i)

played_acts : (n : ℕ) (p : Play) → (actors : List ℕ) × (acted actors (bare p) ≡ bare (played n p))
played_acts zero p = ([], refl)
played_acts (suc n) p =
    let first = picked_acts p (next_state p.generator) (picked p (next_state p.generator)) in
    let rest = played_acts n (pick p) in
    (first.0 ++ rest.0, acted_on first.0 rest.0 (bare p) ∙ ap (acted rest.0) first.1 ∙ rest.1)

pub plays_act : (p q : Play) → PlaysTo p q → ActsTo (bare p) (bare q)
plays_act p q plays = let all = played_acts plays.0 p in (all.0, all.1 ∙ ap bare plays.1, plays.2)

rounds_act : (packets : List Timed) (rounds : List Round) (x : ℕ) (s : Core) (y : ℕ) (t : Core) → Rounds packets rounds x s y t
    → RoundsByActs packets rounds s t
rounds_act packets [] x s y t e = e.1
rounds_act packets (r ∷ rest) x s y t (q, plays, more) =
    (bare q, plays_act (round_begun packets r x s) q plays, rounds_act packets rest q.generator q.state y t more)

pub run_acts : (k : Config) (seed : ℕ) (packets : List Timed) (r : Settled) (t : Core) → RunsByPicks k seed packets r t → RunsByActs k packets r t
run_acts k seed packets r t h = record {
  state = h.state;
  rounds = rounds_act packets _ seed (opening k) h.generator h.state h.rounds;
  settles = h.settles;
}
