-- The controller's clock after a run round by round is the time at which the last round began.
use Rattle.std.proofs.Common.{◌≡◌, ℕ, ◌==◌, Bool, true, false, List, [], ◌∷◌, slice_get, Some, None, Option, option_and_then, option_map, unwrap_or, if◌then◌else◌, refl, ap, ◌∙◌, subst}
use Rattle.std.proofs.lemmas.Option.{same_Some}
use Rattle.sr_base.specs.declared.packet.Packet.{Packet}
use Rattle.sr_inv_ends.specs.Laws.{ActsTellTime, PicksTellTime, clock_after, last_clock}
use Rattle.sr_inv_runs.proofs.Carried.{settled_keeps, turn_keeps}
use Rattle.sr_machine.specs.Controller.{controller_op}
use Rattle.sr_machine.specs.Core.{Core, enters, made, opening, step_event, stepped, told}
use Rattle.sr_machine.specs.Opening.{opening_controller}
use Rattle.sr_machine.specs.Pipe.{entered, pipe_op}
use Rattle.sr_machine.specs.Telling.{is_no_earlier, may_refuse}
use Rattle.sr_machine.specs.Turning.{most_steps}
use Rattle.sr_machine.specs.declared.actor.Actor.TheVariants as actor
use Rattle.sr_machine.specs.declared.event.Event.{Event}
use Rattle.sr_machine.specs.declared.event.Event.TheVariants.{Due, Enter, Refuse, Step}
use Rattle.sr_machine.specs.declared.pipe_view.PipeView.{PipeView}
use Rattle.sr_machine.specs.declared.view.View.TheVariants.{OfController, OfPipe}
use Rattle.sr_picks.proofs.Acts.{run_acts}
use Rattle.sr_picks.specs.Play.{Play, act_of, acted, controller_picked, pipe_idle, pipe_picked, pipes_of, share_of, stepped_by}
use Rattle.sr_picks.specs.Run.{RoundsByActs, round_begun}
use Rattle.sr_picks.specs.Turn.{after}
use Rattle.sr_rounds.specs.declared.round.Round.{Round}
use Rattle.sr_rounds.specs.declared.timed.Timed.{Timed}

abbrev HasClock : Option ℕ → Core → Type 0
HasClock clock s = s.controller.clock ≡ clock

-- what tells no time
abbrev IsTimeless : Event → Type 0
IsTimeless (Due ms) = ⊥
IsTimeless e = Unit {0}

module _ (clock : Option ℕ) where
  made_so : {A : Type 0} (f : A → Core) (t : Core) → ((a : A) → HasClock clock (f a)) → (o : Option A) → option_map f o ≡ Some t
      → HasClock clock t
  made_so f t keep None e = absurd (cc e)
  made_so f t keep (Some a) e = subst (HasClock clock) (same_Some (f a) t e) (keep a)

  pipe_so : (f : PipeView → Option Core) (t : Core) → ((v : PipeView) → f v ≡ Some t → HasClock clock t) → (o : Option PipeView)
      → option_and_then f o ≡ Some t
      → HasClock clock t
  pipe_so f t keep None e = absurd (cc e)
  pipe_so f t keep (Some a) e = keep a e

  timeless : (s t : Core) (e : Event) → HasClock clock s → IsTimeless e → step_event e s ≡ Some t → HasClock clock t
  timeless s t (Due ms) h own e = absurd own
  timeless s t (Step actor.Controller) h own e =
      made_so (made s actor.Controller (OfController s.controller)) t (λ o. h) (controller_op s.config s.controller) e
  timeless s t (Step (actor.Pipe p)) h own e = at (slice_get s.pipes p) e
    where
      at : (o : Option PipeView) → option_and_then (stepped s (actor.Pipe p)) (option_map OfPipe o) ≡ Some t → HasClock clock t
      at None q = absurd (cc q)
      at (Some v) q = made_so (made s (actor.Pipe p) (OfPipe v)) t (λ o. h) (pipe_op s.config.layout v v.stage) q
  timeless s t (Enter p packet) h own e =
      pipe_so (enters s p packet) t (λ v q. made_so _ t (λ w. h) (entered s.config.layout packet v) q) (slice_get s.pipes p) e
  timeless s t Refuse h own e = at (may_refuse s.controller) e
    where
      at : (b : Bool) → told s (if b then Some (record s.controller { refusing = true }) else None) ≡ Some t → HasClock clock t
      at true q = subst (HasClock clock) (same_Some _ t q) h
      at false q = absurd (cc q)

  after_timeless : (s : Core) (e : Event) → IsTimeless e → HasClock clock s → HasClock clock (after e s)
  after_timeless s e own h = at (step_event e s) refl
    where
      at : (o : Option Core) → step_event e s ≡ o → HasClock clock (unwrap_or o s)
      at None q = h
      at (Some t) q = timeless s t e h own q

  stepped_timeless : (p : Play) (i : ℕ) (idle : Bool) (share : List Packet) → HasClock clock p.state
      → HasClock clock (stepped_by p i idle share).state
  stepped_timeless p i true [] h = after_timeless p.state (Step (actor.Pipe i)) tt h
  stepped_timeless p i true (packet ∷ rest) h =
      after_timeless (after (Enter i packet) p.state) (Step (actor.Pipe i)) tt (after_timeless p.state (Enter i packet) tt h)
  stepped_timeless p i false [] h = after_timeless p.state (Step (actor.Pipe i)) tt h
  stepped_timeless p i false (packet ∷ rest) h = after_timeless p.state (Step (actor.Pipe i)) tt h

  act_timeless : (p : Play) (i : ℕ) → HasClock clock p.state → HasClock clock (act_of p i).state
  act_timeless p i h = at (i == pipes_of p)
    where
      at : (b : Bool) → HasClock clock (if b then controller_picked p else pipe_picked p i).state
      at true = turn_keeps (HasClock clock) IsTimeless timeless tt tt (most_steps p.state.config.layout) p.state h
      at false = stepped_timeless p i (pipe_idle (slice_get p.state.pipes i)) (share_of (slice_get p.shares i)) h

  acted_timeless : (actors : List ℕ) (p : Play) → HasClock clock p.state → HasClock clock (acted actors p).state
  acted_timeless [] p h = h
  acted_timeless (i ∷ rest) p h = acted_timeless rest (act_of p i) (act_timeless p i h)

-- the time that a round tells
told_time : (s : Core) (ms : ℕ)
    → (after (Due ms) s).controller.clock ≡ (if is_no_earlier s.controller.clock ms then Some ms else s.controller.clock)
told_time s ms = at (is_no_earlier s.controller.clock ms)
  where
    at : (b : Bool)
        → (unwrap_or (told s (if b then Some (record s.controller { clock = Some ms }) else None)) s).controller.clock
        ≡ (if b then Some ms else s.controller.clock)
    at true = refl
    at false = refl

rounds_time : (packets : List Timed) (rounds : List Round) (s t : Core) → RoundsByActs packets rounds s t
    → t.controller.clock ≡ clock_after s.controller.clock rounds
rounds_time packets [] s t e = ap (λ u. u.controller.clock) e
rounds_time packets (r ∷ rest) s t (q, acts, more) =
    let now = if is_no_earlier s.controller.clock r.start_ms then Some r.start_ms else s.controller.clock in
    let there : q.state.controller.clock ≡ now =
    subst (λ (p : Play). p.state.controller.clock ≡ now) acts.1
    (acted_timeless now acts.0 (round_begun packets r 0 s) (told_time s r.start_ms)) in
    rounds_time packets rest q.state t more ∙ ap (λ c. clock_after c rest) there

pub acts_time : ActsTellTime
unfolding opening_controller
acts_time k packets r t h =
    settled_keeps (HasClock (last_clock k packets)) IsTimeless (timeless (last_clock k packets)) tt tt h.settles.0 h.state t r
    (rounds_time packets _ (opening k) h.state h.rounds) h.settles.1

pub picks_time : PicksTellTime
picks_time k seed packets r t h = acts_time k packets r t (run_acts k seed packets r t h)
