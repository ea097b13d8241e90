-- What the controller begins keeps which versions are in use.
use Rattle.std.proofs.Common.{◌≡◌, ℕ, suc, ◌+◌, ◌<◌, Bool, true, false, ◌&&◌, ◌||◌, List, [], ◌∷◌, if◌then◌else◌, nat_le, ◌==◌, slice_get, Some, None, Option, sym, refl, ap, ◌∙◌, subst, inl, ⊎_elim, true≢false, arith}
use Rattle.std.proofs.lemmas.Bool.{and_parts}
use Rattle.std.proofs.lemmas.Bool.Decides.{nat_tests}
use Rattle.std.proofs.lemmas.Option.{same_Some}
use Rattle.std.specs.List.{AllByRecursion, list_any}
use Rattle.std.specs.Option.{option_or}
use Rattle.sr_base.specs.declared.vip_word.Phase.TheVariants.{Steady, Holding}
use Rattle.sr_inv_facts.specs.Fitted.{IsFitted}
use Rattle.sr_inv_facts.specs.InShape.{ControllerFits}
use Rattle.sr_inv_facts.specs.InUpdate.{IsToCome, JobWaited, VersionsHold, is_ungiven}
use Rattle.sr_inv_update.proofs.PhasesKept.{found_number, free_number}
use Rattle.sr_inv_update.proofs.Versions.{carried}
use Rattle.sr_law.specs.Given.{last_given}
use Rattle.sr_law.specs.Groups.{was_given_past}
use Rattle.sr_law.specs.declared.giving.Giving.{Giving}
use Rattle.sr_law.specs.declared.line.Line.{Line}
use Rattle.sr_machine.specs.Begins.{Begins}
use Rattle.sr_machine.specs.Config.{Config}
use Rattle.sr_machine.specs.Deciding.{named_at, vip_at}
use Rattle.sr_machine.specs.Starting.{Start, update_to}
use Rattle.sr_machine.specs.declared.controller_view.ControllerView.{ControllerView}
use Rattle.sr_machine.specs.declared.job.Job.{Job}
use Rattle.sr_shadow.specs.Book.{count_of}
use Rattle.sr_shadow.specs.declared.entry.Entry.{Entry}
use Rattle.sr_update.specs.Numbers.{NumberRows, drained_from, first_drained, first_number, is_draining, is_drained, least_free, or_after, state_of}
use Rattle.sr_update.specs.declared.give_change.GiveChange.{GiveChange}
use Rattle.sr_update.specs.declared.number_state.NumberState.{NumberState}
use Rattle.sr_update.specs.declared.number_state.NumberState.TheVariants.{Free, Current, Draining}
use Rattle.sr_machine.specs.Begins as begin
use Rattle.sr_machine.specs.declared.draw.Draw.TheVariants as draw
use Rattle.sr_machine.specs.declared.store.Store.TheVariants as store
use Rattle.sr_machine.specs.declared.wait.Wait.TheVariants as wait
use Rattle.sr_machine.specs.declared.job.Job.TheVariants as job
use Rattle.sr_law.specs.declared.line.Line.TheVariants as line

-- ---- a version that drains and that no entry has

drains_is : (is : NumberState) → is_draining is ≡ true → is ≡ Draining
drains_is Free e = cc
drains_is Current e = cc
drains_is Draining e = refl

drained_found : (base vip n : ℕ) (rows : NumberRows) (es : List Entry) → drained_from base rows es ≡ Some (vip, n)
    → (i : ℕ) × (vip ≡ base + i) × (state_of i n rows ≡ Some Draining) × (count_of vip n es ≡ 0)
drained_found base vip n [] es e = cc
drained_found base vip n (row ∷ rows) es e = at (first_number (is_drained base es) 0 row) refl e (drained_found (base + 1) vip n rows es)
  where
    at : (o : Option ℕ) → first_number (is_drained base es) 0 row ≡ o → or_after base o (drained_from (base + 1) rows es) ≡ Some (vip, n)
        → (drained_from (base + 1) rows es ≡ Some (vip, n) → (i : ℕ) × (vip ≡ (base + 1) + i) × (state_of i n rows ≡ Some Draining) × (count_of vip n es ≡ 0))
        → (i : ℕ) × (vip ≡ base + i) × (state_of i n (row ∷ rows) ≡ Some Draining) × (count_of vip n es ≡ 0)
    at None q f more = let r = more f in (suc r.0, omega (arith, r.1), r.2, r.3)
    at (Some m) q f more =
        let r = found_number (is_drained base es) 0 m row q in
        let same : (base, m) ≡ (vip, n) = same_Some (base, m) (vip, n) f in
        let v : base ≡ vip = ap (λ (p : ℕ × ℕ). p.0) same in
        let w : m ≡ n = ap (λ (p : ℕ × ℕ). p.1) same in
        let index : r.0 ≡ n = omega (arith, r.2, w) in
        let parts = and_parts (is_draining r.1) (count_of base m es == 0) r.5 in
        let none : count_of base m es ≡ 0 = grind (arith, nat_tests, parts.1) in
        (0, omega (arith, v), ap (slice_get row) (sym index) ∙ (r.4 ∙ ap Some (drains_is r.1 parts.0)), subst (λ z. count_of z n es ≡ 0) v (subst (λ z. count_of base z es ≡ 0) w none))

pub drained_is : (vip n : ℕ) (rows : NumberRows) (es : List Entry) → first_drained rows es ≡ Some (vip, n)
    → (state_of vip n rows ≡ Some Draining) × (count_of vip n es ≡ 0)
drained_is vip n rows es e =
    let r = drained_found 0 vip n rows es e in
    let index : r.0 ≡ vip = omega (arith, r.1) in (subst (λ z. state_of z n rows ≡ Some Draining) index r.2, r.3)

-- ---- a pool after all that were given

past_last : (lines : List Line) (vip pool : ℕ) (g : Giving) → last_given lines vip ≡ Some g → list_any (was_given_past vip pool) lines ≡ false
    → g.pool < pool
past_last [] vip pool g e n = cc
past_last (line.Given out to version given ∷ rest) vip pool g e n =
    at (to == vip) refl e n (past_last rest vip pool g)
  where
    at : (b : Bool) → (to == vip) ≡ b
        → option_or (if b then Some (record { version = version; pool = given }) else None) (last_given rest vip) ≡ Some g
        → ((b && nat_le pool given) || list_any (was_given_past vip pool) rest) ≡ false
        → (last_given rest vip ≡ Some g → list_any (was_given_past vip pool) rest ≡ false → g.pool < pool) → g.pool < pool
    at true q e n more =
        let same : given ≡ g.pool = ap (λ z. z.pool) (same_Some (record { version = version; pool = given }) g e) in
        by (nat_le pool given) refl n same
      where
        by : (t : Bool) → nat_le pool given ≡ t → (t || list_any (was_given_past vip pool) rest) ≡ false → given ≡ g.pool → g.pool < pool
        by true r m same = cc
        by false r m same = grind (arith, nat_tests)
    at false q e n more = more e n
past_last (l ∷ rest) vip pool g e n = past_last rest vip pool g e n

-- ---- the beginnings

module _ (k : Config) (c : ControllerView) (lines : List Line) (f : IsFitted k) (w : ControllerFits k c) (free : c.job ≡ job.Free) (come : AllByRecursion (IsToCome lines) c.gives) (h : VersionsHold k lines c.update c.vips c.numbers c.named c.book.entries c.mark job.Free) where
  pub begins_as : (m : Job) → is_ungiven m ≡ false → JobWaited c.book.entries c.numbers c.mark m
      → VersionsHold k lines c.update c.vips c.numbers c.named c.book.entries c.mark m
  begins_as m e waited =
      carried k lines lines c.update c.vips c.numbers c.named c.book.entries c.book.entries c.mark c.mark job.Free m h e (λ v. refl) (λ v n. refl) h.newer h.used waited

  new_versions : (g : GiveChange) (rest : List GiveChange) (n : ℕ) → c.update ≡ None → c.gives ≡ g ∷ rest → g.vip < k.layout.vips
      → least_free g.vip c.numbers ≡ Some n
      → VersionsHold k lines (Some (update_to c g n)) c.vips c.numbers c.named c.book.entries 0 (job.Store (store.Member (update_to c g n) 0))
  new_versions g rest n e q v r = record {
    current = λ x y a b.
        let p = o.current x y a b in
        (λ t. ⊎_elim (λ z. inl (z ∙ sym (stands x (x == g.vip) refl))) absurd (p.0 t), λ t. p.1 (⊎_elim (λ z. inl (z ∙ stands x (x == g.vip) refl)) (λ z. absurd (true≢false z.0)) t));
    ungiven = λ t. (free_number g.vip n c.numbers r).0;
    given = λ t. absurd (true≢false t);
    pool = o.pool;
    some = o.some;
    last = λ x a. o.last x a ∙ ap (λ m. Some (record { version = m; pool = named_at c.named x m })) (sym (newer_is x (x == g.vip) refl));
    rises = past_last lines g.vip g.pool (record {
      version =
          (vip_at c.vips g.vip).cur;
      pool = named_at c.named g.vip (vip_at c.vips g.vip).cur;
    }) (o.last g.vip v) (subst (AllByRecursion (IsToCome lines)) q come).0.pool;
    newer = o.newer;
    used = o.used;
    waited = tt;
  }
    where
      o : VersionsHold k lines None c.vips c.numbers c.named c.book.entries c.mark job.Free
      o = subst (λ z. VersionsHold k lines z c.vips c.numbers c.named c.book.entries c.mark job.Free) e h

      stands : (x : ℕ) (b : Bool) → (x == g.vip) ≡ b
          → (if b then (vip_at c.vips g.vip).cur else (vip_at c.vips x).cur) ≡ (vip_at c.vips x).cur
      stands x true t =
          let s : g.vip ≡ x = grind (arith, nat_tests) in ap (λ z. (vip_at c.vips z).cur) s
      stands x false t = refl

      newer_is : (x : ℕ) (b : Bool) → (x == g.vip) ≡ b
          → (if b then (vip_at c.vips g.vip).cur else (vip_at c.vips x).cur) ≡ (vip_at c.vips x).cur
      newer_is = stands

  pub start_versions : ((g : GiveChange) (rest : List GiveChange) → c.gives ≡ g ∷ rest → g.vip < k.layout.vips) → (s : Start)
      → Begins k c s
      → VersionsHold k lines s.update c.vips c.numbers c.named c.book.entries s.mark s.job
  start_versions v s (begin.refuses g rest r e) = begins_as (job.Draw (draw.Refused g.position)) refl tt
  start_versions v s (begin.takes_down o rest e d) = begins_as (job.Draw (draw.TakenDown o.server)) refl tt
  start_versions v s (begin.holds u e p t) = begins_as (job.Draw (draw.Comes u Holding)) refl t
  start_versions v s (begin.finishes u e p t) = begins_as (job.Store (store.Vip u Steady)) refl t
  start_versions v s (begin.changes g rest n e q d r) = new_versions g rest n e q (v g rest q) r
  start_versions v s (begin.answers o rest e r g) = begins_as (job.Draw (draw.Answer (record { held = o; version = Some e.version }))) refl tt
  start_versions v s (begin.places_held o rest p r g d) = begins_as (job.Draw (draw.Reserved p)) refl tt
  start_versions v s (begin.has_no_place o rest r g d) = begins_as (job.Draw (draw.Answer (record { held = o; version = None }))) refl tt
  start_versions v s (begin.places e p r g d) = begins_as (job.Draw (draw.Reserved p)) refl tt
  start_versions v s (begin.retires e place r g) = begins_as (job.Draw (draw.Retired e.key place e.version)) refl tt
  start_versions v s (begin.sweeps ms r g) = begins_as (job.Draw (draw.From ms)) refl tt
  start_versions v s (begin.releases vip n r) = begins_as (job.Draw (draw.Grace (wait.Release vip n))) refl (drained_is vip n c.numbers c.book.entries r)
  start_versions v s (begin.looks r) = begins_as (job.Look 0) refl tt
