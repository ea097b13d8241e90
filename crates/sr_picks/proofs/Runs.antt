-- A run by picks is a run of the machine, and so is one by acts, whoever is next.
use Rattle.std.proofs.Common.{◌≡◌, ℕ, zero, suc, Bool, true, false, List, [], ◌∷◌, Option, None, Some, refl, sym, ◌∙◌, ap, subst, option_and_then, option_map, unwrap_or, slice_get, ◌==◌, if◌then◌else◌}
use Rattle.sr_base.specs.declared.packet.Packet.{Packet}
use Rattle.sr_machine.proofs.Kept.{reaches_more}
use Rattle.sr_machine.specs.Config.{Config}
use Rattle.sr_machine.specs.Controller.{controller_op}
use Rattle.sr_machine.specs.Core.{Core, Reaches, made, opening, step_event}
use Rattle.sr_machine.specs.Settling.{Follows, More, Over, OrRefusal, awaited, ending_of, follows, on_or, refused, settled_in}
use Rattle.sr_machine.specs.Turning.{controlled, most_steps, turn_of_op, turned}
use Rattle.sr_machine.specs.declared.actor.Actor.TheVariants as actor
use Rattle.sr_machine.specs.declared.event.Event.{Event}
use Rattle.sr_machine.specs.declared.event.Event.TheVariants.{Due, Enter, Refuse, Step}
use Rattle.sr_machine.specs.declared.op.Op.{Op}
use Rattle.sr_machine.specs.declared.settled.Settled.{Settled}
use Rattle.sr_machine.specs.declared.turn.Turn.{Turn}
use Rattle.sr_machine.specs.declared.view.View.TheVariants.{OfController}
use Rattle.sr_picks.specs.Play.{ActsTo, Play, PlaysTo, act_of, acted, controller_picked, pipe_idle, pipe_picked, pipes_of, share_of, stepped_by}
use Rattle.sr_picks.specs.Run.{RoundsByActs, RunsByActs, RunsByPicks, round_begun}
use Rattle.sr_picks.specs.Turn.{after, ended_or, turn_in, turn_on}
use Rattle.sr_picks.proofs.Acts.{bare, plays_act, run_acts}
use Rattle.sr_picks.proofs.Turns.{is_turn, turns_as}
use Rattle.sr_rounds.specs.declared.round.Round.{Round}
use Rattle.sr_rounds.specs.declared.timed.Timed.{Timed}

second_or : {A B : Type 0} → B → Option (A × B) → B
second_or b None = b
second_or b (Some p) = p.1

same_second : {A B : Type 0} → (a c : A) (b d : B) → ◌≡◌ {A = Option (A × B)} (Some (a, b)) (Some (c, d)) → b ≡ d
unfolding second_or
same_second a c b d e = ap (second_or b) e

second_none : {A B : Type 0} → (a : A) (b : B) → ◌≡◌ {A = Option (A × B)} None (Some (a, b)) → ⊥
second_none a b e = cc e

same_some : {A : Type 0} → (a b : A) → Some a ≡ Some b → a ≡ b
same_some a b e = cc e

module _ (k : Config) where
  after_by : (s : Core) (e : Event) (o : Option Core) → step_event e s ≡ o → Reaches k s → Reaches k (unwrap_or o s)
  after_by s e None is r = r
  after_by s e (Some t) is r = reaches_more k s t e r is

  -- an event, made or not
  reaches_after : (s : Core) (e : Event) → Reaches k s → Reaches k (after e s)
  reaches_after s e r = after_by s e (step_event e s) refl r

  -- the controller's step
  reaches_controlled : (s : Core) (o : Op) → controller_op s.config s.controller ≡ Some o → Reaches k s → Reaches k (controlled s o)
  reaches_controlled s o is r =
      reaches_more k s (controlled s o) (Step actor.Controller) r
      (ap (option_map (made s actor.Controller (OfController s.controller))) is)

  -- a turn, step by step
  ends_reached : (s : Core) (end : Option Turn) (n : ℕ) → Reaches k s → Reaches k (turn_in n s).state
      → Reaches k (ended_or s end (turn_in n s)).state
  ends_reached s None n r more = more
  ends_reached s (Some t) n r more = r

  turn_on_reached : (n : ℕ) (s : Core) (o : Option Op) → controller_op s.config s.controller ≡ o
      → ((t : Core) → Reaches k t → Reaches k (turn_in n t).state) → Reaches k s → Reaches k (turn_on s (turn_in n) o).state
  turn_on_reached n s None is next r = r
  turn_on_reached n s (Some o) is next r =
      let there = reaches_controlled s o is r in
      ends_reached (controlled s o) (turn_of_op s o) n there (next (controlled s o) there)

  turn_reached : (n : ℕ) (s : Core) → Reaches k s → Reaches k (turn_in n s).state
  turn_reached zero s r = r
  turn_reached (suc n) s r = turn_on_reached n s (controller_op s.config s.controller) refl (turn_reached n) r

  -- a pick
  stepped_reached : (p : Play) (i : ℕ) (idle : Bool) (share : List Packet) → Reaches k p.state → Reaches k (stepped_by p i idle share).state
  stepped_reached p i true [] r = reaches_after p.state (Step (actor.Pipe i)) r
  stepped_reached p i true (packet ∷ rest) r =
      reaches_after _ (Step (actor.Pipe i)) (reaches_after p.state (Enter i packet) r)
  stepped_reached p i false [] r = reaches_after p.state (Step (actor.Pipe i)) r
  stepped_reached p i false (packet ∷ rest) r = reaches_after p.state (Step (actor.Pipe i)) r

  act_by : (p : Play) (i : ℕ) (b : Bool) → Reaches k p.state
      → Reaches k (if b then controller_picked p else pipe_picked p i).state
  act_by p i true r = turn_reached (most_steps p.state.config.layout) p.state r
  act_by p i false r = stepped_reached p i (pipe_idle (slice_get p.state.pipes i)) (share_of (slice_get p.shares i)) r

  acted_reached : (actors : List ℕ) (p : Play) → Reaches k p.state → Reaches k (acted actors p).state
  acted_reached [] p r = r
  acted_reached (i ∷ rest) p r = acted_reached rest (act_of p i) (act_by p i (i == pipes_of p) r)

  -- a round
  acts_reached : (p q : Play) → Reaches k p.state → ActsTo p q → Reaches k q.state
  acts_reached p q r acts = subst (λ (x : Play). Reaches k x.state) acts.1 (acted_reached acts.0 p r)

  pub plays_reached : (p q : Play) → Reaches k p.state → PlaysTo p q → Reaches k q.state
  plays_reached p q r plays = acts_reached (bare p) (bare q) r (plays_act p q plays)

  rounds_reached : (packets : List Timed) (rounds : List Round) (s t : Core) → Reaches k s → RoundsByActs packets rounds s t
      → Reaches k t
  rounds_reached packets [] s t r e = subst (Reaches k) (sym e) r
  rounds_reached packets (round ∷ rest) s t r (q, acts, more) =
      rounds_reached packets rest q.state t
      (acts_reached (round_begun packets round 0 s) q (reaches_after s (Due round.start_ms) r) acts) more

  -- the turns after the last round
  turned_reached : (s t : Core) (a : Turn) → turned s ≡ Some (a, t) → Reaches k s → Reaches k t
  turned_reached s t a e r =
      by (turn_in (most_steps s.config.layout) s).answer refl
    where
      by : (o : Option Turn) → (turn_in (most_steps s.config.layout) s).answer ≡ o → Reaches k t
      by None is =
          let none : turned s ≡ None = sym (turns_as (most_steps s.config.layout) s)
          ∙ ap (option_map (λ a. (a, (turn_in (most_steps s.config.layout) s).state))) is in
          absurd (second_none a t (sym none ∙ e))
      by (Some b) is =
          let same : Some (a, t) ≡ Some (b, (turn_in (most_steps s.config.layout) s).state) =
          sym e ∙ is_turn (most_steps s.config.layout) s b is in
          let there = same_second a b t (turn_in (most_steps s.config.layout) s).state same in
          subst (Reaches k) (sym there) (turn_reached (most_steps s.config.layout) s r)

  on_reached : (s t : Core) (r : Settled) (rest : Core → Option (Settled × Core)) (o : Option Core)
      → ((u : Core) → o ≡ Some u → Reaches k u) → ((u : Core) → Reaches k u → rest u ≡ Some (r, t) → Reaches k t) → Reaches k s
      → on_or s rest o ≡ Some (r, t) → Reaches k t
  on_reached s t r rest None told next there e = subst (Reaches k) (same_second (ending_of (awaited s.controller)) r s t e) there
  on_reached s t r rest (Some u) told next there e = next u (told u refl) e

  refused_reached : (s u : Core) (f : Follows) → Reaches k s → refused s f ≡ Some u → Reaches k u
  refused_reached s u More there e = subst (Reaches k) (same_some s u e) there
  refused_reached s u Over there e = absurd (cc e)
  refused_reached s u OrRefusal there e = reaches_more k s u Refuse there e

  settled_by : (n : ℕ) (s t : Core) (r : Settled) (o : Option (Turn × Core)) → turned s ≡ o
      → ((u : Core) → Reaches k u → settled_in n u ≡ Some (r, t) → Reaches k t) → Reaches k s
      → option_and_then (λ p. on_or p.1 (settled_in n) (refused p.1 (follows p.0))) o ≡ Some (r, t) → Reaches k t
  settled_by n s t r None is next there e = absurd (second_none r t e)
  settled_by n s t r (Some (a, u)) is next there e =
      let after_turn = turned_reached s u a is there in
      on_reached u t r (settled_in n) (refused u (follows a)) (λ v told. refused_reached u v (follows a) after_turn told) next after_turn e

  settled_reached : (n : ℕ) (s t : Core) (r : Settled) → Reaches k s → settled_in n s ≡ Some (r, t) → Reaches k t
  settled_reached zero s t r there e = absurd (second_none r t e)
  settled_reached (suc n) s t r there e =
      settled_by n s t r (turned s) refl (λ u. settled_reached n u t r) there e

  -- the whole run: its last round, and the turns after it
  pub rounds_run_reached : (packets : List Timed) (r : Settled) (t : Core) → (h : RunsByActs k packets r t) → Reaches k h.state
  rounds_run_reached packets r t h = rounds_reached packets _ (opening k) h.state ([], refl) h.rounds

  pub acts_run_reached : (packets : List Timed) (r : Settled) (t : Core) → RunsByActs k packets r t → Reaches k t
  acts_run_reached packets r t h = settled_reached h.settles.0 h.state t r (rounds_run_reached packets r t h) h.settles.1

  pub run_reached : (seed : ℕ) (packets : List Timed) (r : Settled) (t : Core) → RunsByPicks k seed packets r t → Reaches k t
  run_reached seed packets r t h = acts_run_reached packets r t (run_acts k seed packets r t h)
