-- What the last turn found says how the state is.
use Rattle.std.proofs.Common.{◌≡◌, ℕ, inl, inr, ◌&&◌, not, Bool, true, false, List, [], ◌∷◌, ◌++◌, find, is_none, Some, None, Option, option_map, if◌then◌else◌, sym, refl, ap, ◌∙◌, subst, true≢false, arith}
use Rattle.std.proofs.lemmas.Bool.Decides.{nat_tests}
use Rattle.sr_base.specs.declared.vip_word.Phase.{Phase}
use Rattle.sr_base.specs.declared.vip_word.Phase.TheVariants.{Steady, Recording, Holding, Transit}
use Rattle.sr_inv.proofs.Joined.{reached_meets}
use Rattle.sr_inv_ends.specs.Laws.{ActsSettle, EndsAs, PicksSettle, SettledAs, TurnsEndSo, TurnsSettle}
use Rattle.sr_inv_entered.proofs.Ending.{acts_reached}
use Rattle.sr_inv_facts.specs.InUpdate.{AtRest, IsPlacing, JobAt}
use Rattle.sr_inv_facts.specs.Invariant.{Invariant}
use Rattle.sr_inv_final.specs.Rest.{AreIdle}
use Rattle.sr_inv_rest.proofs.Resting.{EndsDone, acts_leisure, settles_done}
use Rattle.sr_inv_runs.proofs.Picked.{acts_idle}
use Rattle.sr_inv_settled.proofs.Joined.{quiet, waiting}
use Rattle.sr_inv_settled.specs.Quiet.{AreLater, HasNothingToDo}
use Rattle.sr_machine.specs.Core.{Core, step_event, told}
use Rattle.sr_machine.specs.Deciding.{vip_at}
use Rattle.sr_machine.specs.Settling.{awaited, awaited_by, awaited_in, ending_of, follows, refused}
use Rattle.sr_machine.specs.Starting.{beginning, change_of, going_on, refusal_of, update_of, update_to, with_job}
use Rattle.sr_machine.specs.Telling.{full_change, is_at_leisure, may_refuse}
use Rattle.sr_machine.specs.Turning.{rest_by}
use Rattle.sr_machine.specs.declared.event.Event.TheVariants.{Refuse}
use Rattle.sr_machine.specs.declared.pool_update.PoolUpdate.{PoolUpdate}
use Rattle.sr_machine.specs.declared.settled.Settled.{Settled}
use Rattle.sr_machine.specs.declared.turn.Turn.{Turn}
use Rattle.sr_picks.proofs.Acts.{run_acts}
use Rattle.sr_shadow.specs.Entry.{is_pending}
use Rattle.sr_shadow.specs.declared.entry.Entry.{Entry}
use Rattle.sr_update.proofs.Dues.{gives_in_order, order_from}
use Rattle.sr_update.specs.Numbers.{first_drained, least_free}
use Rattle.sr_update.specs.Updates.{IsInOrder, has_come}
use Rattle.sr_update.specs.Waits.{first_before_finish, first_before_hold}
use Rattle.sr_update.specs.declared.give_change.GiveChange.{GiveChange}
use Rattle.sr_machine.specs.declared.draw.Draw.TheVariants as draw
use Rattle.sr_machine.specs.declared.store.Store.TheVariants as store
use Rattle.sr_machine.specs.declared.wait.Wait.TheVariants as wait
use Rattle.sr_machine.specs.declared.job.Job.TheVariants as job
use Rattle.sr_machine.specs.declared.settled.Settled.TheVariants as settled

-- ---- changes in their order

order_back : (from : ℕ) (front back : List GiveChange) → IsInOrder from (front ++ back) → IsInOrder 0 back
order_back from [] back o = order_from 0 from back (omega arith) o
order_back from (g ∷ front) back o = order_back g.at_ms front back o.1

-- what comes after a time that the clock hasn't reached isn't due
later_none : (clock : Option ℕ) (from : ℕ) (gives : List GiveChange) → has_come from clock ≡ false → IsInOrder from gives → AreLater clock gives
later_none clock from [] n o = tt
later_none clock from (g ∷ rest) n o = let here = late clock n in (here, later_none clock g.at_ms rest here o.1)
  where
    late : (clock : Option ℕ) → has_come from clock ≡ false → has_come g.at_ms clock ≡ false
    late None q = refl
    late (Some now) q = let below = o.0 in grind (arith, nat_tests, below)

module _ (r : Settled) (t : Core) (e : EndsDone r t) (i : Invariant t) (idle : AreIdle t) where
  nothing : HasNothingToDo t
  nothing = record { idle = idle; empty = e.done.empty; free = e.done.free; none = e.done.none }

  -- ---- where nothing is waited for, no update is under way

  no_update : awaited t.controller ≡ None → t.controller.update ≡ None
  no_update n = at t.controller.update refl n e.done.none.update
    where
      by : (u : PoolUpdate) → t.controller.update ≡ Some u → (p : Phase) → (vip_at t.controller.vips u.vip).phase ≡ p
          → awaited_in t.controller u p ≡ None → option_map (with_job t.controller) (going_on t.controller u p) ≡ None → ⊥
      by u q Recording r a g = none (first_before_hold u.vip t.controller.mark t.controller.book.entries) a g
        where
          none : (o : Option Entry) → o ≡ None
              → option_map (with_job t.controller) (if is_none o then Some (job.Draw (draw.Comes u Holding)) else None) ≡ None → ⊥
          none None x y = cc
          none (Some z) x y = cc
      by u q Transit r a g = none (first_before_finish u.vip u.replaced t.controller.book.entries) a g
        where
          none : (o : Option Entry) → o ≡ None
              → option_map (with_job t.controller) (if is_none o then Some (job.Store (store.Vip u Steady)) else None) ≡ None → ⊥
          none None x y = cc
          none (Some z) x y = cc
      by u q Steady r a g = placing r (λ z. cc z) (λ z. cc z)
        where
          placing : {p : Phase} → (vip_at t.controller.vips u.vip).phase ≡ p → (p ≡ Recording → ⊥) → (p ≡ Transit → ⊥) → ⊥
          placing r x y =
              two (subst (λ o. AtRest o t.controller.vips) q (subst (λ j. JobAt t.config t.controller.update t.controller.vips j) e.done.free i.update.update.phase))
            where
              two : IsPlacing u (vip_at t.controller.vips u.vip) → ⊥
              two (inl z) = x (sym r ∙ ap (λ w. w.phase) z)
              two (inr z) = y (sym r ∙ ap (λ w. w.phase) z)
      by u q Holding r a g = placing r (λ z. cc z) (λ z. cc z)
        where
          placing : {p : Phase} → (vip_at t.controller.vips u.vip).phase ≡ p → (p ≡ Recording → ⊥) → (p ≡ Transit → ⊥) → ⊥
          placing r x y =
              two (subst (λ o. AtRest o t.controller.vips) q (subst (λ j. JobAt t.config t.controller.update t.controller.vips j) e.done.free i.update.update.phase))
            where
              two : IsPlacing u (vip_at t.controller.vips u.vip) → ⊥
              two (inl z) = x (sym r ∙ ap (λ w. w.phase) z)
              two (inr z) = y (sym r ∙ ap (λ w. w.phase) z)

      at : (o : Option PoolUpdate) → t.controller.update ≡ o → awaited_by t.controller o ≡ None → update_of t.controller o ≡ None → o ≡ None
      at None q a g = refl
      at (Some u) q a g = absurd (by u q (vip_at t.controller.vips u.vip).phase refl a g)

  -- ---- and no change is due: it would be made, or could be refused

  -- after an answer that nothing can be done for a change, it could be told to be refused
  could_refuse : (g : GiveChange) → full_change t.controller.clock t.controller.numbers t.controller.gives ≡ Some g → may_refuse t.controller ≡ false
  could_refuse g f = at (may_refuse t.controller) refl (answered (find is_pending t.controller.book.entries) e.done.rest)
    where
      or_refusal : (a : Turn) → (o : Option Entry) → a ≡ rest_by o (Some g) → refused t (follows a) ≡ None → step_event Refuse t ≡ None
      or_refusal a None q h = subst (λ z. refused t (follows z) ≡ None) q h
      or_refusal a (Some x) q h = subst (λ z. refused t (follows z) ≡ None) q h

      answered : (o : Option Entry) → e.answer ≡ rest_by (find is_pending t.controller.book.entries) (full_change t.controller.clock t.controller.numbers t.controller.gives)
          → step_event Refuse t ≡ None
      answered o q = or_refusal e.answer (find is_pending t.controller.book.entries) (q ∙ ap (rest_by (find is_pending t.controller.book.entries)) f) e.over

      at : (b : Bool) → may_refuse t.controller ≡ b → step_event Refuse t ≡ None → b ≡ false
      at false q h = refl
      at true q h = absurd (cc (subst (λ z. told t (if z then Some (record t.controller { refusing = true }) else None) ≡ None) q h))

  -- a change that is due without a free number could
  may_then : (g : GiveChange) (rest : List GiveChange) → t.controller.gives ≡ g ∷ rest → t.controller.update ≡ None
      → full_change t.controller.clock t.controller.numbers t.controller.gives ≡ Some g → may_refuse t.controller ≡ true
  may_then g rest q u f =
      all (not t.controller.refusing) (is_none t.controller.update) (is_at_leisure t.controller.job) (is_none (first_drained t.controller.numbers t.controller.book.entries))
      (not (is_none (full_change t.controller.clock t.controller.numbers t.controller.gives)))
      (quiet_refusal t.controller.refusing (subst (λ gs. refusal_of t.controller t.controller.refusing gs ≡ None) q e.done.none.refusal))
      (ap is_none u) (ap is_at_leisure e.done.free)
      (drained (first_drained t.controller.numbers t.controller.book.entries) e.done.none.release) (ap (λ o. not (is_none o)) f)
    where
      all : (a b c d f : Bool) → a ≡ true → b ≡ true → c ≡ true → d ≡ true → f ≡ true → (a && (b && (c && (d && f)))) ≡ true
      all true true true true true p q r s t = refl
      all true true true true false p q r s t = cc
      all true true true false f p q r s t = cc
      all true true false d f p q r s t = cc
      all true false c d f p q r s t = cc
      all false b c d f p q r s t = cc

      quiet_refusal : (b : Bool) → refusal_of t.controller b (g ∷ rest) ≡ None → not b ≡ true
      quiet_refusal true h = cc
      quiet_refusal false h = refl

      drained : (o : Option (ℕ × ℕ)) → option_map (λ (p : ℕ × ℕ). with_job t.controller (job.Draw (draw.Grace (wait.Release p.0 p.1)))) o ≡ None → is_none o ≡ true
      drained None h = refl
      drained (Some p) h = cc

  -- the first change isn't due
  first_later : t.controller.update ≡ None → (gives : List GiveChange) → t.controller.gives ≡ gives → IsInOrder 0 gives → AreLater t.controller.clock gives
  first_later u [] q o = tt
  first_later u (g ∷ rest) q o = at (has_come g.at_ms t.controller.clock) refl
    where
      free : has_come g.at_ms t.controller.clock ≡ true → least_free g.vip t.controller.numbers ≡ None
      free d = none (has_come g.at_ms t.controller.clock) (least_free g.vip t.controller.numbers) d
          (subst (λ gs. change_of t.controller gs ≡ None) q (subst (λ z. update_of t.controller z ≡ None) u e.done.none.update))
        where
          none : (b : Bool) (o : Option ℕ) → b ≡ true
              → (if b then option_map (λ number. beginning t.controller rest (update_to t.controller g number)) o else None) ≡ None → o ≡ None
          none true None d h = refl
          none true (Some n) d h = cc
          none false o d h = cc

      full : has_come g.at_ms t.controller.clock ≡ true → full_change t.controller.clock t.controller.numbers t.controller.gives ≡ Some g
      full d = ap (full_change t.controller.clock t.controller.numbers) q
          ∙ two (has_come g.at_ms t.controller.clock) (least_free g.vip t.controller.numbers) d (free d)
        where
          two : (b : Bool) (o : Option ℕ) → b ≡ true → o ≡ None → (if b && is_none o then Some g else None) ≡ Some g
          two true None d n = refl
          two true (Some x) d n = cc
          two false o d n = cc

      at : (b : Bool) → has_come g.at_ms t.controller.clock ≡ b → AreLater t.controller.clock (g ∷ rest)
      at false d = (d, later_none t.controller.clock g.at_ms rest d o.1)
      at true d = absurd (true≢false (sym (may_then g rest q u (full d)) ∙ could_refuse g (full d)))

  none_due : t.controller.update ≡ None → AreLater t.controller.clock t.controller.gives
  none_due u =
      first_later u t.controller.gives refl
      (order_back 0 i.shape.controller.gives.0 t.controller.gives (subst (IsInOrder 0) i.shape.controller.gives.1 (gives_in_order [] t.config.changes 0 i.shape.config.fits.in_time)))

  ends : EndsAs r t
  ends = subst (λ z. EndsAs z t) e.how (at (awaited t.controller) refl)
    where
      at : (o : Option Entry) → awaited t.controller ≡ o → EndsAs (ending_of o) t
      at None q = let over = no_update q in record { nothing = nothing; over = over; later = none_due over }
      at (Some x) q = record { nothing = nothing; entry = x; awaits = q; own = refl }

pub turns_end : TurnsEndSo
turns_end s t r free h i idle = ends r t (settles_done s t r free h) i idle

pub turns_settle : TurnsSettle
turns_settle k s t r f reached free h idle =
    at r (turns_end s t r free h (reached_meets k f reached.events t reached.packets reached.leads) idle)
  where
    at : (r : Settled) → EndsAs r t → SettledAs k r t
    at settled.Quiet q = quiet k t f reached q
    at (settled.Waiting key) q = waiting k t key f reached q
    at settled.Memory q = q

pub acts_settle : ActsSettle
acts_settle k packets r t f are h =
    turns_settle k h.state t r f (acts_reached k packets r t are h) (acts_leisure k packets r t h) h.settles (acts_idle k packets r t f are h)

pub picks_settle : PicksSettle
picks_settle k seed packets r t f are h = acts_settle k packets r t f are (run_acts k seed packets r t h)
