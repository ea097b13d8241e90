-- All rounds of a run, one after another.
use Rattle.std.proofs.Common.{◌≡◌, ◌∙◌, ℕ, List, [], ◌∷◌, Some, suc, ◌+◌, ◌<◌, length, drop, get_or, refl, sym, ap, subst, arith}
use Rattle.std.proofs.Math.Seq.{drop-cons}
use Rattle.sr_core.specs.HeldCore.{HeldCore, Shows, state_of}
use Rattle.sr_core.specs.PlainWords.{ShowsWords}
use Rattle.sr_machine.specs.Config.{Config}
use Rattle.sr_machine.specs.Core.{Core, opening}
use Rattle.sr_machine.specs.Settling.{settled_in}
use Rattle.sr_machine.specs.declared.name.Name.{Name}
use Rattle.sr_machine.specs.declared.settled.Settled.{Settled}
use Rattle.sr_picks.specs.Play.{ActsTo, Play, PlaysTo}
use Rattle.sr_base.specs.declared.packet.Packet.{Packet}
use Rattle.sr_machine.specs.declared.event.Event.TheVariants.{Due}
use Rattle.sr_picks.specs.Run.{Rounds, RoundsByActs, packets_in, round_begun, shares_of}
use Rattle.sr_picks.specs.Turn.{after}
use Rattle.sr_rounds.specs.Rounds.{rounds_of}
use Rattle.sr_rounds.specs.declared.round.Round.{Round}
use Rattle.sr_rounds.specs.declared.timed.Timed.{Timed}
use Rattle.sr_steps.specs.Running.{ActsRound, ActsRounds, PlaysRound, PlaysRounds, RanByActs, Ran}
use Rattle.sr_steps.specs.Standing.{Acts, EventMade, Plays, SettlesTo, StandingView, play_of}

-- what the rounds to come lead to is what all of them do
abbrev pub LeadsOn : List Timed → List Round → ℕ → Core → List Round → ℕ → HeldCore → Type 0
LeadsOn packets rounds x s left z h = (t : Core) × Shows h t
    × ((y : ℕ) (u : Core) → Rounds packets left z t y u → Rounds packets rounds x s y u)

pub leads_from : (packets : List Timed) (rounds : List Round) (x : ℕ) (h : HeldCore) (words : Name → ℕ)
    → ShowsWords h.config.layout h.words words → LeadsOn packets rounds x (state_of h words) rounds x h
leads_from packets rounds x h words shows = (state_of h words, (words, shows, refl), λ y u e. e)

pub leads_more : (packets : List Timed) (rounds : List Round) (x : ℕ) (s : Core) (r : Round) (left : List Round) (z y : ℕ) (h new : HeldCore)
    → LeadsOn packets rounds x s (r ∷ left) z h → PlaysRound packets r z y h new → LeadsOn packets rounds x s left y new
leads_more packets rounds x s r left z y h new leads plays =
    let there = leads.1 in
    let round = plays there.0 there.1 in (
      round.0.state,
      round.2,
      λ w u more.
          leads.2 w u (
            round.0,
            subst (λ c. PlaysTo (round_begun packets r z c) round.0) (sym there.2) round.1,
            subst (λ g. Rounds packets left g round.0.state w u) round.3 more,
          ),
    )

pub leads_next : (packets : List Timed) (rounds : List Round) (x : ℕ) (s : Core) (i : ℕ) (d : Round) (z y : ℕ) (h new : HeldCore)
    → i < length rounds → LeadsOn packets rounds x s (drop i rounds) z h → PlaysRound packets (get_or rounds i d) z y h new
    → LeadsOn packets rounds x s (drop (i + 1) rounds) y new
leads_next packets rounds x s i d z y h new within leads plays =
    let more : suc i ≡ i + 1 = omega arith in
    leads_more packets rounds x s (get_or rounds i d) (drop (i + 1) rounds) z y h new
    (subst (λ left. LeadsOn packets rounds x s left z h)
    (drop-cons rounds i d within ∙ ap (λ k. get_or rounds i d ∷ drop k rounds) more) leads)
    plays

pub leads_out : (packets : List Timed) (rounds : List Round) (x : ℕ) (s : Core) (z : ℕ) (h : HeldCore)
    → LeadsOn packets rounds x s [] z h → (y : ℕ) × (t : Core) × Rounds packets rounds x s y t × Shows h t
leads_out packets rounds x s z h leads = (z, leads.0, leads.2 z leads.0 (refl, refl), leads.1)

-- all rounds, and then the turns
pub runs : (k : Config) (seed : ℕ) (packets : List Timed) (r : Settled) (first mid new : HeldCore) → Shows first (opening k)
    → PlaysRounds packets (rounds_of k.layout.shape.window_ms packets) seed first mid → SettlesTo r mid new → Ran k seed packets r new
runs k seed packets r first mid new start rounds settles =
    let there = rounds start.0 start.1 in
    let end = settles there.3.0 there.3.1 in (
      end.0,
      record {
        generator = there.0;
        state = there.1;
        rounds = subst (λ s. Rounds packets (rounds_of k.layout.shape.window_ms packets) seed s there.0 there.1) (sym start.2) there.2;
        settles = (end.1.0, subst (λ s. settled_in end.1.0 s ≡ Some (r, end.0)) (sym there.3.2) end.1.1);
      },
      end.2,
    )

-- how a round begins that was shared so
round_begins : (packets : List Timed) (r : Round) (x : ℕ) (old mid : HeldCore) (was : StandingView) (pipes : ℕ) (shares : List (List Packet))
    (words now : Name → ℕ) → after (Due r.start_ms) (state_of old words) ≡ state_of mid now → pipes ≡ old.config.layout.shape.pipes
    → shares ≡ shares_of pipes (packets_in packets r) → was ≡ record { shares = shares; turns = 0; waits = 0; generator = x }
    → play_of mid now was ≡ round_begun packets r x (state_of old words)
round_begins packets r x old mid was pipes shares words now due many shared begins =
    ap (play_of mid now) begins
    ∙ ap (λ s. record { state = s; shares = shares; turns = 0; waits = 0; generator = x }) (sym due)
    ∙ ap (λ ss. record { state = after (Due r.start_ms) (state_of old words); shares = ss; turns = 0; waits = 0; generator = x })
    (shared ∙ ap (λ n. shares_of n (packets_in packets r)) many)

-- a round, from its time to its last pick
pub round_played : (packets : List Timed) (r : Round) (x y : ℕ) (old mid new : HeldCore) (was is : StandingView) (pipes : ℕ) (shares : List (List Packet))
    → EventMade (Due r.start_ms) old mid → pipes ≡ old.config.layout.shape.pipes → shares ≡ shares_of pipes (packets_in packets r)
    → was ≡ record { shares = shares; turns = 0; waits = 0; generator = x } → Plays mid was new is → y ≡ is.generator
    → PlaysRound packets r x y old new
round_played packets r x y old mid new was is pipes shares due many shared begins plays ends words shows =
    let made = due words shows in
    let played_to = plays made.0 made.1 in
    let begun = round_begins packets r x old mid was pipes shares words made.0 made.2 many shared begins in (
      played_to.0,
      subst (λ p. PlaysTo p played_to.0) begun played_to.1,
      (played_to.2.0, played_to.2.1, ap (λ (q : Play). q.state) played_to.2.2),
      ends ∙ sym (ap (λ (q : Play). q.generator) played_to.2.2),
    )

-- ---- rounds in order

-- what the rounds to come lead to is what all of them do
abbrev pub ActsLeadOn : List Timed → List Round → Core → List Round → HeldCore → Type 0
ActsLeadOn packets rounds s left h = (t : Core) × Shows h t × ((u : Core) → RoundsByActs packets left t u → RoundsByActs packets rounds s u)

pub acts_from : (packets : List Timed) (rounds : List Round) (h : HeldCore) (words : Name → ℕ)
    → ShowsWords h.config.layout h.words words → ActsLeadOn packets rounds (state_of h words) rounds h
acts_from packets rounds h words shows = (state_of h words, (words, shows, refl), λ u e. e)

acts_more : (packets : List Timed) (rounds : List Round) (s : Core) (r : Round) (left : List Round) (h new : HeldCore)
    → ActsLeadOn packets rounds s (r ∷ left) h → ActsRound packets r h new → ActsLeadOn packets rounds s left new
acts_more packets rounds s r left h new leads acts =
    let there = leads.1 in
    let round = acts there.0 there.1 in (
      round.0.state,
      round.2,
      λ u more. leads.2 u (round.0, subst (λ c. ActsTo (round_begun packets r 0 c) round.0) (sym there.2) round.1, more),
    )

pub acts_next : (packets : List Timed) (rounds : List Round) (s : Core) (i : ℕ) (d : Round) (h new : HeldCore)
    → i < length rounds → ActsLeadOn packets rounds s (drop i rounds) h → ActsRound packets (get_or rounds i d) h new
    → ActsLeadOn packets rounds s (drop (i + 1) rounds) new
acts_next packets rounds s i d h new within leads acts =
    let more : suc i ≡ i + 1 = omega arith in
    acts_more packets rounds s (get_or rounds i d) (drop (i + 1) rounds) h new
    (subst (λ left. ActsLeadOn packets rounds s left h)
    (drop-cons rounds i d within ∙ ap (λ k. get_or rounds i d ∷ drop k rounds) more) leads)
    acts

pub acts_out : (packets : List Timed) (rounds : List Round) (s : Core) (h : HeldCore)
    → ActsLeadOn packets rounds s [] h → (t : Core) × RoundsByActs packets rounds s t × Shows h t
acts_out packets rounds s h leads = (leads.0, leads.2 leads.0 refl, leads.1)

-- all rounds, and then the turns
pub runs_in_order : (k : Config) (packets : List Timed) (r : Settled) (first mid new : HeldCore) → Shows first (opening k)
    → ActsRounds packets (rounds_of k.layout.shape.window_ms packets) first mid → SettlesTo r mid new → RanByActs k packets r new
runs_in_order k packets r first mid new start rounds settles =
    let there = rounds start.0 start.1 in
    let end = settles there.2.0 there.2.1 in (
      end.0,
      record {
        state = there.0;
        rounds = subst (λ s. RoundsByActs packets (rounds_of k.layout.shape.window_ms packets) s there.0) (sym start.2) there.1;
        settles = (end.1.0, subst (λ s. settled_in end.1.0 s ≡ Some (r, end.0)) (sym there.2.2) end.1.1);
      },
      end.2,
    )

-- a round, from its time to its last act
pub round_acted : (packets : List Timed) (r : Round) (old mid new : HeldCore) (was is : StandingView) (pipes x : ℕ) (shares : List (List Packet))
    → EventMade (Due r.start_ms) old mid → pipes ≡ old.config.layout.shape.pipes → shares ≡ shares_of pipes (packets_in packets r)
    → was ≡ record { shares = shares; turns = 0; waits = 0; generator = x } → x ≡ 0 → Acts mid was new is
    → ActsRound packets r old new
round_acted packets r old mid new was is pipes x shares due many shared begins none acts words shows =
    let made = due words shows in
    let acted_to = acts made.0 made.1 in
    let begun : play_of mid made.0 was ≡ round_begun packets r x (state_of old words) =
    round_begins packets r x old mid was pipes shares words made.0 made.2 many shared begins in (
      acted_to.0,
      subst (λ p. ActsTo p acted_to.0) (begun ∙ ap (λ g. round_begun packets r g (state_of old words)) none) acted_to.1,
      (acted_to.2.0, acted_to.2.1, ap (λ (q : Play). q.state) acted_to.2.2),
    )
