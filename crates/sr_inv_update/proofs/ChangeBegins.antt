-- What the controller begins, and what it is told, keep what is said of changes.
use Rattle.std.proofs.Common.{◌≡◌, ℕ, ◌<◌, Bool, true, false, List, [], ◌∷◌, Some, None, Option, unwrap_or, sym, refl, ap, ◌∙◌, subst, true≢false}
use Rattle.std.specs.List.{AllByRecursion, list_any}
use Rattle.std.specs.Option.{option_or}
use Rattle.sr_base.specs.declared.vip_word.Phase.{Phase}
use Rattle.sr_base.specs.declared.vip_word.Phase.TheVariants.{Steady, Recording, Holding, Transit}
use Rattle.sr_inv_facts.proofs.Lists.{all_then}
use Rattle.sr_inv_facts.specs.Fitted.{IsFitted}
use Rattle.sr_inv_facts.specs.InShape.{ControllerFits}
use Rattle.sr_inv_facts.specs.InUpdate.{ChangesHold, IsRefused, IsToCome, NothingFree, OnRefused, UpdateHolds, group_by, group_of_phase, is_ungiven}
use Rattle.sr_inv_update.proofs.Changes.{change_fits}
use Rattle.sr_inv_update.proofs.ChangesKept.{none_ungiven}
use Rattle.sr_inv_update.proofs.GivesRise.{AreInOrder, IsBefore, end_in_order}
use Rattle.sr_inv_update.proofs.GroupSteps.{first_group}
use Rattle.sr_inv_update.proofs.Groups.{group_last, plain_group, IsPlainGroup}
use Rattle.sr_law.specs.Groups.{is_over, was_given_past}
use Rattle.sr_law.specs.Order.{refused_past}
use Rattle.sr_law.specs.declared.line.Line.{Line}
use Rattle.sr_machine.proofs.Following.{first_begins}
use Rattle.sr_machine.specs.Begins.{Begins}
use Rattle.sr_machine.specs.Config.{Config}
use Rattle.sr_machine.specs.Deciding.{vip_at}
use Rattle.sr_machine.specs.Starting.{Start, first_act, refusal_act, refusal_of, refusal_start, update_to, with_job, beginning}
use Rattle.sr_machine.specs.declared.controller_view.ControllerView.{ControllerView}
use Rattle.sr_machine.specs.declared.job.Job.{Job}
use Rattle.sr_machine.specs.declared.pool_update.PoolUpdate.{PoolUpdate}
use Rattle.sr_update.specs.declared.give_change.GiveChange.{GiveChange}
use Rattle.sr_machine.specs.Begins as begin
use Rattle.sr_machine.specs.declared.draw.Draw.TheVariants as draw
use Rattle.sr_machine.specs.declared.store.Store.TheVariants as store
use Rattle.sr_machine.specs.declared.wait.Wait.TheVariants as wait
use Rattle.sr_machine.specs.declared.job.Job.TheVariants as job

-- ---- a refusal comes before all else

some_first : {X : Type 0} (a r : Option X) (d s : X) → a ≡ Some s → unwrap_or (option_or a r) d ≡ s
some_first a r d s e = ap (λ o. unwrap_or (option_or o r) d) e

refusal_first : (k : Config) (c : ControllerView) (g : GiveChange) (rest : List GiveChange) → c.refusing ≡ true → c.gives ≡ g ∷ rest
    → first_act k c ≡ refusal_start c g rest
unfolding first_act
refusal_first k c g rest r e =
    some_first (refusal_act c) _ _ (refusal_start c g rest) (ap (λ b. refusal_of c b c.gives) r ∙ ap (refusal_of c true) e)

-- ---- the beginnings

module _ (k : Config) (c : ControllerView) (lines : List Line) (f : IsFitted k) (w : ControllerFits k c) (h : ChangesHold k lines c.update c.vips c.numbers c.book.entries c.gives c.refusing job.Free) where
  abbrev Started : Start → Type 0
  Started s = ChangesHold k lines s.update c.vips c.numbers c.book.entries s.gives s.refusing s.job

  refuses : (g : GiveChange) (rest : List GiveChange) → c.refusing ≡ true → c.gives ≡ g ∷ rest → Started (refusal_start c g rest)
  refuses g rest r e =
      let m = h.may_refuse r in
      let change = change_fits k f g rest c.gives w.gives e in
      let order : AreInOrder (g ∷ rest) = subst AreInOrder e (end_in_order k.changes c.gives w.gives) in
      let come : AllByRecursion (IsToCome lines) (g ∷ rest) = subst (AllByRecursion (IsToCome lines)) e h.to_come in
      record {
        may_refuse = λ t. absurd (true≢false (sym t));
        refused = record {
          none = m.none;
          vip = g.vip;
          below = change.0;
          full = subst (NothingFree k.layout.shape.versions c.numbers c.book.entries) e m.full;
          later = all_then (IsBefore g) (λ b. g.position < b.position) (λ b o. o.position) rest order.0;
        };
        unrefused = come.0.position;
        to_come = come.1;
        new = none_ungiven c.update (job.Draw (draw.Refused g.position)) (λ u. list_any (was_given_past u.vip u.pool) lines ≡ false) refl;
        after = none_ungiven c.update (job.Draw (draw.Refused g.position)) (λ u. AllByRecursion (λ b. b.vip ≡ u.vip → u.pool < b.pool) rest) refl;
        enough = h.enough;
        group = plain_group c.update c.vips job.Free (job.Draw (draw.Refused g.position)) (group_last k.layout.vips lines) tt tt ∙ h.group;
      }

  module _ (no_refusal : c.refusing ≡ false) where
    pub as_job : (m : Job) → OnRefused m (λ i. ⊥) → is_ungiven m ≡ false
        → group_by c.update c.vips m (group_last k.layout.vips lines) ≡ group_by c.update c.vips job.Free (group_last k.layout.vips lines)
        → Started (with_job c m)
    as_job m n un g = record {
      may_refuse = λ t. absurd (true≢false (sym t ∙ no_refusal));
      refused = never (IsRefused k c.update c.numbers c.book.entries c.gives) m n;
      unrefused = never (λ i. list_any (refused_past i) lines ≡ false) m n;
      to_come = h.to_come;
      new = none_ungiven c.update m (λ u. list_any (was_given_past u.vip u.pool) lines ≡ false) un;
      after = none_ungiven c.update m (λ u. AllByRecursion (λ b. b.vip ≡ u.vip → u.pool < b.pool) c.gives) un;
      enough = h.enough;
      group = g ∙ h.group;
    }
      where
        never : (P : ℕ → Type 0) (m : Job) → OnRefused m (λ i. ⊥) → OnRefused m P
        never P (job.Draw (draw.Refused i)) n = absurd n
        never P m n = tt

    pub plain : (m : Job) → IsPlainGroup m
        → group_by c.update c.vips m (group_last k.layout.vips lines) ≡ group_by c.update c.vips job.Free (group_last k.layout.vips lines)
    plain m p = plain_group c.update c.vips job.Free m (group_last k.layout.vips lines) tt p

    by_phase : (u : PoolUpdate) (p : Phase) (j : Job) (o : Option Line) → c.update ≡ Some u → (vip_at c.vips u.vip).phase ≡ p
        → group_by c.update c.vips j o ≡ group_of_phase u (vip_at c.vips u.vip) j p o
    by_phase u p j o e q =
        ap (λ z. group_by z c.vips j o) e ∙ ap (λ z. group_of_phase u (vip_at c.vips u.vip) j z o) q

    changes : (g : GiveChange) (rest : List GiveChange) (n : ℕ) → c.update ≡ None → c.gives ≡ g ∷ rest
        → UpdateHolds k (Some (update_to c g n)) c.vips (job.Store (store.Member (update_to c g n) 0))
        → Started (beginning c rest (update_to c g n))
    changes g rest n e q p =
        let order : AreInOrder (g ∷ rest) = subst AreInOrder q (end_in_order k.changes c.gives w.gives) in
        let come : AllByRecursion (IsToCome lines) (g ∷ rest) = subst (AllByRecursion (IsToCome lines)) q h.to_come in
        let d : ControllerView = record c { update = Some (update_to c g n) } in
        let over : is_over (group_last k.layout.vips lines) ≡ true = sym (ap (λ z. group_by z c.vips job.Free (group_last k.layout.vips lines)) e) ∙ h.group in
        record {
          may_refuse = λ t. absurd (true≢false (sym t ∙ no_refusal));
          refused = tt;
          unrefused = tt;
          to_come = come.1;
          new = λ t. come.0.pool;
          after = λ t. all_then (IsBefore g) (λ b. b.vip ≡ g.vip → g.pool < b.pool) (λ b o. o.pool) rest order.0;
          enough = h.enough;
          group = first_group k d 0 lines h.enough (update_to c g n) (job.Store (store.Member (update_to c g n) 0)) (group_last k.layout.vips lines) p.fits p.phase.0 ∙ over;
        }

    pub start_changes : (s : Start) → UpdateHolds k s.update c.vips s.job → Begins k c s → Started s
    start_changes s p (begin.refuses g rest r e) = absurd (true≢false (sym r ∙ no_refusal))
    start_changes s p (begin.takes_down o rest e d) =
        let t = as_job (job.Draw (draw.TakenDown o.server)) tt refl (plain (job.Draw (draw.TakenDown o.server)) tt) in
        record { may_refuse = t.may_refuse; refused = tt; unrefused = tt; to_come = t.to_come; new = t.new; after = t.after; enough = t.enough; group = t.group }
    start_changes s p (begin.holds u e q t) =
        as_job (job.Draw (draw.Comes u Holding)) tt refl (by_phase u Recording (job.Draw (draw.Comes u Holding)) (group_last k.layout.vips lines) e q ∙ sym (by_phase u Recording job.Free (group_last k.layout.vips lines) e q))
    start_changes s p (begin.finishes u e q t) =
        as_job (job.Store (store.Vip u Steady)) tt refl (by_phase u Transit (job.Store (store.Vip u Steady)) (group_last k.layout.vips lines) e q ∙ sym (by_phase u Transit job.Free (group_last k.layout.vips lines) e q))
    start_changes s p (begin.changes g rest n e q d r) = changes g rest n e q p
    start_changes s p (begin.answers o rest e r g) = as_job (job.Draw (draw.Answer (record { held = o; version = Some e.version }))) tt refl (plain (job.Draw (draw.Answer (record { held = o; version = Some e.version }))) tt)
    start_changes s p (begin.places_held o rest q r g d) = as_job (job.Draw (draw.Reserved q)) tt refl (plain (job.Draw (draw.Reserved q)) tt)
    start_changes s p (begin.has_no_place o rest r g d) = as_job (job.Draw (draw.Answer (record { held = o; version = None }))) tt refl (plain (job.Draw (draw.Answer (record { held = o; version = None }))) tt)
    start_changes s p (begin.places e q r g d) = as_job (job.Draw (draw.Reserved q)) tt refl (plain (job.Draw (draw.Reserved q)) tt)
    start_changes s p (begin.retires e place r g) = as_job (job.Draw (draw.Retired e.key place e.version)) tt refl (plain (job.Draw (draw.Retired e.key place e.version)) tt)
    start_changes s p (begin.sweeps ms r g) = as_job (job.Draw (draw.From ms)) tt refl (plain (job.Draw (draw.From ms)) tt)
    start_changes s p (begin.releases vip n r) = as_job (job.Draw (draw.Grace (wait.Release vip n))) tt refl (plain (job.Draw (draw.Grace (wait.Release vip n))) tt)
    start_changes s p (begin.looks r) = as_job (job.Look 0) tt refl (plain (job.Look 0) tt)

  pub first_changes : ((s : Start) → Begins k c s → UpdateHolds k s.update c.vips s.job) → Started (first_act k c)
  first_changes phases = at c.refusing refl
    where
      given : (gives : List GiveChange) → c.gives ≡ gives → c.refusing ≡ true → Started (first_act k c)
      given [] e r = absurd (subst (NothingFree k.layout.shape.versions c.numbers c.book.entries) e (h.may_refuse r).full)
      given (g ∷ rest) e r = subst Started (sym (refusal_first k c g rest r e)) (refuses g rest r e)

      at : (b : Bool) → c.refusing ≡ b → Started (first_act k c)
      at true r = given c.gives refl r
      at false r = start_changes r (first_act k c) (phases (first_act k c) (first_begins k c)) (first_begins k c)
