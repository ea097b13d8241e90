-- What every event keeps, a run round by round keeps, whoever acts next: where the packets that enter are ones.
use Rattle.sr_base.specs.declared.packet.Packet.{Packet}
use Rattle.sr_hash.specs.Uses.{pipe_number}
use Rattle.sr_inv_facts.proofs.Lists.{all_filtered, all_got, all_images, all_set}
use Rattle.sr_inv_facts.specs.Fitted.{IsPacket}
use Rattle.sr_inv_runs.specs.Runs.{ArePackets}
use Rattle.sr_machine.specs.Config.{Config}
use Rattle.sr_machine.specs.Controller.{controller_op}
use Rattle.sr_machine.specs.Core.{Core, made, opening, step_event}
use Rattle.sr_machine.specs.Keeping.{Brings}
use Rattle.sr_machine.specs.Settling.{Follows, More, Over, OrRefusal, awaited, ending_of, follows, on_or, refused, settled_in}
use Rattle.sr_machine.specs.Turning.{controlled, most_steps, turn_of_op, turned}
use Rattle.sr_machine.specs.declared.actor.Actor.TheVariants as actor
use Rattle.sr_machine.specs.declared.event.Event.TheVariants.{Due, Enter, Refuse, Step}
use Rattle.sr_machine.specs.declared.event.Event.{Event}
use Rattle.sr_machine.specs.declared.op.Op.{Op}
use Rattle.sr_machine.specs.declared.settled.Settled.{Settled}
use Rattle.sr_machine.specs.declared.turn.Turn.{Turn}
use Rattle.sr_machine.specs.declared.view.View.TheVariants.{OfController}
use Rattle.sr_picks.proofs.Turns.{is_turn, turns_as}
use Rattle.sr_picks.specs.Play.{ActsTo, Play, act_of, acted, controller_picked, pipe_idle, pipe_picked, pipes_of, share_of, stepped_by}
use Rattle.sr_picks.specs.Run.{RoundsByActs, RunsByActs, packets_in, round_begun}
use Rattle.sr_picks.specs.Turn.{after, ended_or, turn_in, turn_on}
use Rattle.sr_rounds.specs.declared.round.Round.{Round}
use Rattle.sr_rounds.specs.declared.timed.Timed.{Timed}
use Rattle.std.proofs.Common.{◌≡◌, ℕ, zero, suc, ◌-◌, map, take, drop, filter, Bool, true, false, List, [], ◌∷◌, Option, None, Some, refl, sym, ◌∙◌, ap, subst, option_and_then, option_map, unwrap_or, slice_get, ◌==◌, if◌then◌else◌}
use Rattle.std.specs.List.{AllByRecursion, range_with_len}

second_or : {A B : Type 0} → B → Option (A × B) → B
second_or b None = b
second_or b (Some p) = p.1

same_second : {A B : Type 0} → (a c : A) (b d : B) → ◌≡◌ {A = Option (A × B)} (Some (a, b)) (Some (c, d)) → b ≡ d
unfolding second_or
same_second a c b d e = ap (second_or b) e

second_none : {A B : Type 0} → (a : A) (b : B) → ◌≡◌ {A = Option (A × B)} None (Some (a, b)) → ⊥
second_none a b e = cc e

same_some : {A : Type 0} → (a b : A) → Some a ≡ Some b → a ≡ b
same_some a b e = cc e

-- the packets of shares are ones
abbrev pub AreShares : List (List Packet) → Type 0
AreShares shares = AllByRecursion (AllByRecursion IsPacket) shares

share_are : (o : Option (List Packet)) → ((share : List Packet) → o ≡ Some share → AllByRecursion IsPacket share)
    → AllByRecursion IsPacket (share_of o)
share_are None h = tt
share_are (Some share) h = h share refl

-- ---- the controller alone

module _ (P : Core → Type 0) (Allowed : Event → Type 0) (makes : (s t : Core) (e : Event) → P s → Allowed e → step_event e s ≡ Some t → P t)
    (own : Allowed (Step actor.Controller)) (refuses : Allowed Refuse) where
  -- the controller's step
  controlled_keeps : (s : Core) (o : Op) → controller_op s.config s.controller ≡ Some o → P s → P (controlled s o)
  controlled_keeps s o is r =
      makes s (controlled s o) (Step actor.Controller) r own (ap (option_map (made s actor.Controller (OfController s.controller))) is)

  -- a turn, step by step
  ends_keep : (s : Core) (end : Option Turn) (n : ℕ) → P s → P (turn_in n s).state → P (ended_or s end (turn_in n s)).state
  ends_keep s None n r more = more
  ends_keep s (Some t) n r more = r

  turn_on_keeps : (n : ℕ) (s : Core) (o : Option Op) → controller_op s.config s.controller ≡ o
      → ((t : Core) → P t → P (turn_in n t).state) → P s → P (turn_on s (turn_in n) o).state
  turn_on_keeps n s None is next r = r
  turn_on_keeps n s (Some o) is next r =
      let there = controlled_keeps s o is r in
      ends_keep (controlled s o) (turn_of_op s o) n there (next (controlled s o) there)

  pub turn_keeps : (n : ℕ) (s : Core) → P s → P (turn_in n s).state
  turn_keeps zero s r = r
  turn_keeps (suc n) s r = turn_on_keeps n s (controller_op s.config s.controller) refl (turn_keeps n) r

  -- ---- the turns after the last round

  turned_keeps : (s t : Core) (a : Turn) → turned s ≡ Some (a, t) → P s → P t
  turned_keeps s t a e r = by (turn_in (most_steps s.config.layout) s).answer refl
    where
      by : (o : Option Turn) → (turn_in (most_steps s.config.layout) s).answer ≡ o → P t
      by None is =
          let none : turned s ≡ None = sym (turns_as (most_steps s.config.layout) s)
          ∙ ap (option_map (λ a. (a, (turn_in (most_steps s.config.layout) s).state))) is in
          absurd (second_none a t (sym none ∙ e))
      by (Some b) is =
          let same : Some (a, t) ≡ Some (b, (turn_in (most_steps s.config.layout) s).state) =
          sym e ∙ is_turn (most_steps s.config.layout) s b is in
          let there = same_second a b t (turn_in (most_steps s.config.layout) s).state same in
          subst P (sym there) (turn_keeps (most_steps s.config.layout) s r)

  on_keeps : (s t : Core) (r : Settled) (rest : Core → Option (Settled × Core)) (o : Option Core)
      → ((u : Core) → o ≡ Some u → P u) → ((u : Core) → P u → rest u ≡ Some (r, t) → P t) → P s
      → on_or s rest o ≡ Some (r, t) → P t
  on_keeps s t r rest None told next there e = subst P (same_second (ending_of (awaited s.controller)) r s t e) there
  on_keeps s t r rest (Some u) told next there e = next u (told u refl) e

  refused_keeps : (s u : Core) (f : Follows) → P s → refused s f ≡ Some u → P u
  refused_keeps s u More there e = subst P (same_some s u e) there
  refused_keeps s u Over there e = absurd (cc e)
  refused_keeps s u OrRefusal there e = makes s u Refuse there refuses e

  settled_by : (n : ℕ) (s t : Core) (r : Settled) (o : Option (Turn × Core)) → turned s ≡ o
      → ((u : Core) → P u → settled_in n u ≡ Some (r, t) → P t) → P s
      → option_and_then (λ p. on_or p.1 (settled_in n) (refused p.1 (follows p.0))) o ≡ Some (r, t) → P t
  settled_by n s t r None is next there e = absurd (second_none r t e)
  settled_by n s t r (Some (a, u)) is next there e =
      let after_turn = turned_keeps s u a is there in
      on_keeps u t r (settled_in n) (refused u (follows a)) (λ v told. refused_keeps u v (follows a) after_turn told) next after_turn e

  pub settled_keeps : (n : ℕ) (s t : Core) (r : Settled) → P s → settled_in n s ≡ Some (r, t) → P t
  settled_keeps zero s t r there e = absurd (second_none r t e)
  settled_keeps (suc n) s t r there e = settled_by n s t r (turned s) refl (λ u. settled_keeps n u t r) there e

-- ---- all actors

module _ (P : Core → Type 0) (makes : (s t : Core) (e : Event) → P s → Brings IsPacket e → step_event e s ≡ Some t → P t) where
  after_by : (s : Core) (e : Event) (o : Option Core) → step_event e s ≡ o → Brings IsPacket e → P s → P (unwrap_or o s)
  after_by s e None is a r = r
  after_by s e (Some t) is a r = makes s t e r a is

  -- an event, made or not
  pub after_keeps : (s : Core) (e : Event) → Brings IsPacket e → P s → P (after e s)
  after_keeps s e a r = after_by s e (step_event e s) refl a r

  -- ---- an act

  -- what holds of a play: its state keeps it, and its shares are of packets
  abbrev Carries : Play → Type 0
  Carries p = P p.state × AreShares p.shares

  stepped_keeps : (p : Play) (i : ℕ) (idle : Bool) (share : List Packet) → AllByRecursion IsPacket share → Carries p
      → Carries (stepped_by p i idle share)
  stepped_keeps p i true [] a h = (after_keeps p.state (Step (actor.Pipe i)) tt h.0, h.1)
  stepped_keeps p i true (packet ∷ rest) a h =
      (after_keeps (after (Enter i packet) p.state) (Step (actor.Pipe i)) tt (after_keeps p.state (Enter i packet) a.0 h.0), all_set (AllByRecursion IsPacket) p.shares i rest h.1 a.1)
  stepped_keeps p i false [] a h = (after_keeps p.state (Step (actor.Pipe i)) tt h.0, h.1)
  stepped_keeps p i false (packet ∷ rest) a h = (after_keeps p.state (Step (actor.Pipe i)) tt h.0, h.1)

  act_by : (p : Play) (i : ℕ) (b : Bool) → Carries p → Carries (if b then controller_picked p else pipe_picked p i)
  act_by p i true h = (turn_keeps P (Brings IsPacket) makes tt tt (most_steps p.state.config.layout) p.state h.0, h.1)
  act_by p i false h =
      stepped_keeps p i (pipe_idle (slice_get p.state.pipes i)) (share_of (slice_get p.shares i))
      (share_are (slice_get p.shares i) (λ share e. all_got (AllByRecursion IsPacket) p.shares i share h.1 e)) h

  acted_keeps : (actors : List ℕ) (p : Play) → Carries p → Carries (acted actors p)
  acted_keeps [] p h = h
  acted_keeps (i ∷ rest) p h = acted_keeps rest (act_of p i) (act_by p i (i == pipes_of p) h)

  -- ---- a round

  acts_keep : (p q : Play) → Carries p → ActsTo p q → Carries q
  acts_keep p q h acts = subst Carries acts.1 (acted_keeps acts.0 p h)

  packets_are : (packets : List Timed) (r : Round) → ArePackets packets → AllByRecursion IsPacket (packets_in packets r)
  packets_are packets r a =
      all_images IsPacket (λ (t : Timed). t.packet) (take (r.to - r.from) (drop r.from packets)) (all_taken (r.to - r.from) (drop r.from packets) (all_dropped r.from packets a))
    where
      all_dropped : (n : ℕ) (xs : List Timed) → ArePackets xs → ArePackets (drop n xs)
      all_dropped zero xs a = a
      all_dropped (suc n) [] a = tt
      all_dropped (suc n) (x ∷ xs) a = all_dropped n xs a.1

      all_taken : (n : ℕ) (xs : List Timed) → ArePackets xs → ArePackets (take n xs)
      all_taken zero xs a = tt
      all_taken (suc n) [] a = tt
      all_taken (suc n) (x ∷ xs) a = (a.0, all_taken n xs a.1)

  shares_are : (pipes : List ℕ) (of : Packet → ℕ) (packets : List Packet) → AllByRecursion IsPacket packets
      → AreShares (map (λ i. filter (λ p. of p == i) packets) pipes)
  shares_are [] of packets a = tt
  shares_are (i ∷ rest) of packets a = (all_filtered IsPacket (λ p. of p == i) packets a, shares_are rest of packets a)

  -- a round keeps it
  pub round_keeps : (packets : List Timed) → ArePackets packets → (r : Round) (s : Core) (q : Play) → P s
      → ActsTo (round_begun packets r 0 s) q
      → P q.state
  round_keeps packets a r s q h acts =
      (acts_keep (round_begun packets r 0 s) q (after_keeps s (Due r.start_ms) tt h, shares_are (range_with_len 0 s.config.layout.shape.pipes) (λ p. pipe_number p.key s.config.layout.shape.pipes) (packets_in packets r) (packets_are packets r a)) acts).0

  rounds_keep : (packets : List Timed) → ArePackets packets → (rounds : List Round) (s t : Core) → P s → RoundsByActs packets rounds s t
      → P t
  rounds_keep packets a [] s t r e = subst P (sym e) r
  rounds_keep packets a (round ∷ rest) s t r (q, acts, more) =
      rounds_keep packets a rest q.state t (round_keeps packets a round s q r acts) more

  -- ---- the whole run: its last round, and the turns after it

  pub run_rounds_keep : (k : Config) (packets : List Timed) (r : Settled) (t : Core) → ArePackets packets → P (opening k)
      → (h : RunsByActs k packets r t) → P h.state
  run_rounds_keep k packets r t a first h = rounds_keep packets a _ (opening k) h.state first h.rounds

  pub run_keeps : (k : Config) (packets : List Timed) (r : Settled) (t : Core) → ArePackets packets → P (opening k)
      → RunsByActs k packets r t
      → P t
  run_keeps k packets r t a first h =
      settled_keeps P (Brings IsPacket) makes tt tt h.settles.0 h.state t r (run_rounds_keep k packets r t a first h) h.settles.1
