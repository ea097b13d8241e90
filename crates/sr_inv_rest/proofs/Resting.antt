-- A run round by round ends at rest: no look is in progress where a turn begins, so the last turn has looked at every ring.
use Rattle.std.proofs.Common.{◌≡◌, ℕ, zero, suc, ◌==◌, Bool, true, false, List, [], ◌∷◌, slice_get, Option, Some, None, option_and_then, option_map, unwrap_or, refl, sym, ap, subst, if◌then◌else◌}
use Rattle.std.proofs.lemmas.Option.{same_Some}
use Rattle.sr_base.specs.declared.packet.Packet.{Packet}
use Rattle.sr_inv_rest.proofs.Looks.{Stops, none_held}
use Rattle.sr_inv_rest.proofs.Turns.{EndsSo, IsDone, turn_so}
use Rattle.sr_inv_rest.specs.Laws.{ActsEndAtRest, AtLeisure, PicksEndAtRest, SettledIsAtRest}
use Rattle.sr_inv_final.proofs.Resting.{rests}
use Rattle.sr_inv_runs.proofs.Picked.{acts_idle, acts_keep}
use Rattle.sr_machine.specs.Config.{Config}
use Rattle.sr_machine.specs.Core.{Core, enters, opening, step_event, stepped, told}
use Rattle.sr_machine.specs.Opening.{opening_controller}
use Rattle.sr_machine.specs.Pipe.{entered, pipe_op}
use Rattle.sr_machine.specs.Settling.{Follows, More, Over, OrRefusal, awaited, ending_of, follows, on_or, refused, settled_in, Settles}
use Rattle.sr_machine.specs.Telling.{is_no_earlier, may_refuse}
use Rattle.sr_machine.specs.Turning.{most_steps}
use Rattle.sr_machine.specs.declared.actor.Actor.TheVariants as actor
use Rattle.sr_machine.specs.declared.event.Event.{Event}
use Rattle.sr_machine.specs.declared.event.Event.TheVariants.{Due, Enter, Refuse, Step}
use Rattle.sr_machine.specs.declared.pipe_view.PipeView.{PipeView}
use Rattle.sr_machine.specs.declared.settled.Settled.{Settled}
use Rattle.sr_machine.specs.declared.turn.Turn.{Turn}
use Rattle.sr_machine.specs.declared.turn.Turn.TheVariants as turn
use Rattle.sr_machine.specs.declared.view.View.TheVariants.{OfPipe}
use Rattle.sr_picks.proofs.Acts.{run_acts}
use Rattle.sr_picks.proofs.Turns.{turns_as}
use Rattle.sr_picks.specs.Play.{Play, act_of, acted, controller_picked, pipe_idle, pipe_picked, pipes_of, share_of, stepped_by}
use Rattle.sr_picks.specs.Run.{RoundsByActs, round_begun, RunsByActs}
use Rattle.sr_picks.specs.Turn.{after, turn_of}
use Rattle.sr_rounds.specs.declared.round.Round.{Round}
use Rattle.sr_rounds.specs.declared.timed.Timed.{Timed}

-- ---- what others do leaves the job as it is

abbrev IsOthers : Event → Type 0
IsOthers (Step actor.Controller) = ⊥
IsOthers e = Unit {0}

module _ (s t : Core) (h : AtLeisure s) where
  made_so : {A : Type 0} (f : A → Core) → ((a : A) → AtLeisure (f a)) → (o : Option A) → option_map f o ≡ Some t
      → AtLeisure t
  made_so f keep None e = absurd (cc e)
  made_so f keep (Some a) e = subst AtLeisure (same_Some (f a) t e) (keep a)

  pipe_so : (f : PipeView → Option Core) → ((v : PipeView) → f v ≡ Some t → AtLeisure t) → (o : Option PipeView) → option_and_then f o ≡ Some t
      → AtLeisure t
  pipe_so f keep None e = absurd (cc e)
  pipe_so f keep (Some a) e = keep a e

  others_leave : (e : Event) → IsOthers e → step_event e s ≡ Some t → AtLeisure t
  others_leave (Step actor.Controller) own e = absurd own
  others_leave (Step (actor.Pipe p)) own e = at (slice_get s.pipes p) e
    where
      at : (o : Option PipeView) → option_and_then (stepped s (actor.Pipe p)) (option_map OfPipe o) ≡ Some t → AtLeisure t
      at None q = absurd (cc q)
      at (Some v) q = made_so _ (λ o. h) (pipe_op s.config.layout v v.stage) q
  others_leave (Enter p packet) own e =
      pipe_so (enters s p packet) (λ v q. made_so _ (λ w. h) (entered s.config.layout packet v) q) (slice_get s.pipes p) e
  others_leave (Due ms) own e = at (is_no_earlier s.controller.clock ms) e
    where
      at : (b : Bool) → told s (if b then Some (record s.controller { clock = Some ms }) else None) ≡ Some t → AtLeisure t
      at true q = subst AtLeisure (same_Some _ t q) h
      at false q = absurd (cc q)
  others_leave Refuse own e = at (may_refuse s.controller) e
    where
      at : (b : Bool) → told s (if b then Some (record s.controller { refusing = true }) else None) ≡ Some t → AtLeisure t
      at true q = subst AtLeisure (same_Some _ t q) h
      at false q = absurd (cc q)

-- an event of another actor, made or not
after_leaves : (s : Core) (e : Event) → IsOthers e → AtLeisure s → AtLeisure (after e s)
after_leaves s e own h = at (step_event e s) refl
  where
    at : (o : Option Core) → step_event e s ≡ o → AtLeisure (unwrap_or o s)
    at None q = h
    at (Some t) q = others_leave s t h e own q

-- ---- a round

stepped_leaves : (p : Play) (i : ℕ) (idle : Bool) (share : List Packet) → AtLeisure p.state → AtLeisure (stepped_by p i idle share).state
stepped_leaves p i true [] h = after_leaves p.state (Step (actor.Pipe i)) tt h
stepped_leaves p i true (packet ∷ rest) h =
    after_leaves (after (Enter i packet) p.state) (Step (actor.Pipe i)) tt (after_leaves p.state (Enter i packet) tt h)
stepped_leaves p i false [] h = after_leaves p.state (Step (actor.Pipe i)) tt h
stepped_leaves p i false (packet ∷ rest) h = after_leaves p.state (Step (actor.Pipe i)) tt h

act_leaves : (p : Play) (i : ℕ) → AtLeisure p.state → AtLeisure (act_of p i).state
act_leaves p i h = at (i == pipes_of p)
  where
    at : (b : Bool) → AtLeisure (if b then controller_picked p else pipe_picked p i).state
    at true = (turn_so p.state h).0
    at false = stepped_leaves p i (pipe_idle (slice_get p.state.pipes i)) (share_of (slice_get p.shares i)) h

acted_leaves : (actors : List ℕ) (p : Play) → AtLeisure p.state → AtLeisure (acted actors p).state
acted_leaves [] p h = h
acted_leaves (i ∷ rest) p h = acted_leaves rest (act_of p i) (act_leaves p i h)

rounds_leave : (packets : List Timed) (rounds : List Round) (s t : Core) → AtLeisure s → RoundsByActs packets rounds s t → AtLeisure t
rounds_leave packets [] s t h e = subst AtLeisure (sym e) h
rounds_leave packets (r ∷ rest) s t h (q, to, more) =
    let there : AtLeisure q.state =
    subst (λ (p : Play). AtLeisure p.state) to.1
    (acted_leaves to.0 (round_begun packets r 0 s) (after_leaves s (Due r.start_ms) tt h)) in
    rounds_leave packets rest q.state t there more

-- ---- the turns after the last round

second_same : {A B : Type 0} → (a c : A) (b d : B) → ◌≡◌ {A = Option (A × B)} (Some (a, b)) (Some (c, d)) → b ≡ d
second_same a c b d e = ap (λ p. p.1) (same_Some (a, b) (c, d) e)

-- the turns are over where one found nothing to do
over_stops : (s : Core) (a : Turn) → refused s (follows a) ≡ None → Stops a
over_stops s (turn.Did act) e = cc
over_stops s (turn.NotYet pipe entered) e = cc
over_stops s a e = tt

refused_leaves : (s u : Core) (f : Follows) → AtLeisure s → refused s f ≡ Some u → AtLeisure u
refused_leaves s u More h e = subst AtLeisure (same_Some s u e) h
refused_leaves s u Over h e = absurd (cc e)
refused_leaves s u OrRefusal h e = others_leave s u h Refuse tt e

-- how the turns end: the last one found nothing to do, and nothing can be refused
pub record EndsDone (r : Settled) (t : Core) : Type 0 where
  pub answer : Turn
  pub done : IsDone t answer
  pub over : refused t (follows answer) ≡ None
  pub how : ending_of (awaited t.controller) ≡ r

settled_by : (n : ℕ) (s t : Core) (r : Settled) (a : Turn) (o : Option Core) → (turn_of s).answer ≡ Some a
    → refused (turn_of s).state (follows a) ≡ o
    → ((u : Core) → AtLeisure u → settled_in n u ≡ Some (r, t) → EndsDone r t) → AtLeisure s
    → on_or (turn_of s).state (settled_in n) o ≡ Some (r, t) → EndsDone r t
settled_by n s t r a (Some u) is told next h e = next u (refused_leaves (turn_of s).state u (follows a) (turn_so s h).0 told) e
settled_by n s t r a None is told next h e =
    let v = (turn_of s).state in
    let ends : EndsSo v (Some a) = subst (EndsSo v) is (turn_so s h).1 in
    subst (EndsDone r) (second_same (ending_of (awaited v.controller)) r v t e) (record {
      answer = a;
      done = ends (over_stops v a told);
      over = told;
      how = ap (λ p. p.0) (same_Some (ending_of (awaited v.controller), v) (r, t) e);
    })

-- a turn as it came out is followed by so many more
abbrev followed : ℕ → Option (Turn × Core) → Option (Settled × Core)
followed n o = option_and_then (λ (p : Turn × Core). on_or p.1 (settled_in n) (refused p.1 (follows p.0))) o

settled_done : (n : ℕ) (s t : Core) (r : Settled) → AtLeisure s → settled_in n s ≡ Some (r, t) → EndsDone r t
settled_done zero s t r h e = absurd (cc e)
settled_done (suc n) s t r h e =
    let same = turns_as (most_steps s.config.layout) s in
    at (turn_of s).answer refl (subst (λ o. followed n o ≡ Some (r, t)) (sym same) e) (λ u. settled_done n u t r)
  where
    at : (o : Option Turn) → (turn_of s).answer ≡ o → followed n (option_map (λ a. (a, (turn_of s).state)) o) ≡ Some (r, t)
        → ((u : Core) → AtLeisure u → settled_in n u ≡ Some (r, t) → EndsDone r t)
        → EndsDone r t
    at None is q next = absurd (cc q)
    at (Some a) is q next = settled_by n s t r a (refused (turn_of s).state (follows a)) is refl next h q

-- ---- the whole run

-- the controller begins without a job
opening_leisure : (k : Config) → AtLeisure (opening k)
unfolding opening_controller
opening_leisure k = tt

-- Where turns end, of which the first began with no look in progress, and no packet is in hand, nothing is under way.
pub settled_rests : SettledIsAtRest
settled_rests s t r free h i idle =
    let e : EndsDone r t = settled_done h.0 s t r free h.1 in
    rests t i idle e.done.empty (none_held t.config t.controller t.controller.held e.done.none.opener)

-- and they end as they say
pub settles_done : (s t : Core) (r : Settled) → AtLeisure s → Settles s r t → EndsDone r t
settles_done s t r free h = settled_done h.0 s t r free h.1

-- where the turns after the last round begin, no look is in progress
pub acts_leisure : (k : Config) (packets : List Timed) (r : Settled) (t : Core) → (h : RunsByActs k packets r t) → AtLeisure h.state
acts_leisure k packets r t h = rounds_leave packets _ (opening k) h.state (opening_leisure k) h.rounds

pub acts_rest : ActsEndAtRest
acts_rest k packets r t f a h =
    settled_rests h.state t r (acts_leisure k packets r t h) h.settles
    (acts_keep k packets r t f a h).0 (acts_idle k packets r t f a h)

pub picks_rest : PicksEndAtRest
picks_rest k seed packets r t f a h = acts_rest k packets r t f a (run_acts k seed packets r t h)
