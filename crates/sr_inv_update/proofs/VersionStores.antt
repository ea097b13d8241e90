-- A phase that is stored, an update that is over and a version that is released keep what is said of versions.
use Rattle.std.proofs.Common.{◌≡◌, ℕ, ◌+◌, ◌<◌, ◌≤◌, Bool, true, false, cond, ◌≢◌, ◌⊎◌, ◌↔◌, List, [], ◌∷◌, length, if◌then◌else◌, ◌==◌, slice_index_or, slice_set, Some, None, count_by, Option, sym, refl, ap, ◌∙◌, subst, inl, inr, ⊎_elim, true≢false, arith}
use Rattle.std.proofs.lemmas.Bool.Decides.{nat_tests}
use Rattle.std.proofs.lemmas.List.Sums.{sum_by-cons}
use Rattle.std.proofs.lemmas.Option.{slice_get_within}
use Rattle.std.specs.List.{AllByRecursion}
use Rattle.sr_base.specs.declared.vip_word.Phase.{Phase}
use Rattle.sr_base.specs.declared.vip_word.Phase.TheVariants.{Steady, Recording, Holding, Transit}
use Rattle.sr_base.specs.declared.vip_word.VipWord.{VipWord}
use Rattle.sr_inv_facts.proofs.Lists.{all_both, all_then}
use Rattle.sr_inv_facts.specs.InUpdate.{IsNew, JobAt, JobWaited, OnUngiven, SwitchesUpTo, UpdateFits, VersionsHold, is_ungiven, is_used, is_used_by, newest, standing}
use Rattle.sr_inv_update.proofs.Phases.{vip_else, vip_here}
use Rattle.sr_inv_update.proofs.Rows.{full_row, state_cases, state_inside}
use Rattle.sr_inv_update.proofs.VersionSteps.{Wide}
use Rattle.sr_inv_update.proofs.Versions.{newest_same, given_same, sum_then}
use Rattle.sr_law.specs.declared.line.Line.{Line}
use Rattle.sr_machine.specs.Config.{Config}
use Rattle.sr_machine.specs.Deciding.{learned, learned_in, named_at, vip_at}
use Rattle.sr_machine.specs.Reads.{steady}
use Rattle.sr_machine.specs.Stores.{phase_word, vip_draw}
use Rattle.sr_machine.specs.declared.job.Job.{Job}
use Rattle.sr_machine.specs.declared.pool_update.PoolUpdate.{PoolUpdate}
use Rattle.sr_shadow.specs.Entry.{has_version}
use Rattle.sr_shadow.specs.declared.entry.Entry.{Entry}
use Rattle.sr_update.specs.Numbers.{NumberRows, state_of, with_state}
use Rattle.sr_update.specs.declared.number_state.NumberState.TheVariants.{Free, Current, Draining}
use Rattle.sr_machine.specs.declared.store.Store.TheVariants as store
use Rattle.sr_machine.specs.declared.job.Job.TheVariants as job
use Rattle.sr_law.specs.declared.line.Line.TheVariants as line

-- ---- a phase is stored

module _ (k : Config) (lines : List Line) (vips : List VipWord) (numbers : NumberRows) (named : List (List ℕ)) (entries : List Entry) (mark : ℕ) (u : PoolUpdate) (p : Phase) (m : Job) (inside : u.vip < length vips) (h : VersionsHold k lines (Some u) vips numbers named entries mark (job.Store (store.Vip u p))) where
  abbrev stored : List VipWord
  stored = slice_set vips u.vip (phase_word u p)

  standing_stored : (v : ℕ) → standing (Some u) stored v ≡ standing (Some u) vips v
  standing_stored v = at (v == u.vip) refl
    where
      at : (b : Bool) → (v == u.vip) ≡ b
          → (if b then u.replaced else (vip_at stored v).cur) ≡ (if b then u.replaced else (vip_at vips v).cur)
      at true e = refl
      at false e =
          let o : v ≢ u.vip = grind (arith, nat_tests) in ap (λ w. w.cur) (vip_else vips u.vip v (phase_word u p) o)

  newest_stored : (v : ℕ) → newest (Some u) stored (job.Store (store.Vip u p)) v ≡ newest (Some u) vips (job.Store (store.Vip u p)) v
  newest_stored v = at (v == u.vip) refl
    where
      at : (b : Bool) → (v == u.vip) ≡ b → (if b then u.given else (vip_at stored v).cur) ≡ (if b then u.given else (vip_at vips v).cur)
      at true e = refl
      at false e =
          let o : v ≢ u.vip = grind (arith, nat_tests) in ap (λ w. w.cur) (vip_else vips u.vip v (phase_word u p) o)

  switches_stored : named_at named u.vip (learned vips u.vip) ≤ named_at named u.vip (learned stored u.vip) → (l : Line)
      → SwitchesUpTo (λ v. named_at named v (learned vips v)) l
      → SwitchesUpTo (λ v. named_at named v (learned stored v)) l
  switches_stored g (line.Switched out v to) s = at (v == u.vip) refl
    where
      at : (b : Bool) → (v == u.vip) ≡ b → to ≤ named_at named v (learned stored v)
      at true e =
          let o : u.vip ≡ v = grind (arith, nat_tests) in
          let t : named_at named v (learned vips v) ≤ named_at named v (learned stored v) = subst (λ z. named_at named z (learned vips z) ≤ named_at named z (learned stored z)) o g in
          omega (arith, s, t)
      at false e =
          let o : v ≢ u.vip = grind (arith, nat_tests) in
          subst (λ w. to ≤ named_at named v (learned_in w.phase w.cur w.next)) (sym (vip_else vips u.vip v (phase_word u p) o)) s
  switches_stored g l s = tt

  pub versions_stored : named_at named u.vip (learned vips u.vip) ≤ named_at named u.vip (learned stored u.vip) → is_ungiven m ≡ false
      → JobWaited entries numbers mark m → VersionsHold k lines (Some u) stored numbers named entries mark m
  versions_stored g e waited = record {
    current = λ v n a b.
        let o = h.current v n a b in
        (λ t. ⊎_elim (λ r. inl (r ∙ sym (standing_stored v))) (λ r. inr (e, r.1, r.2)) (o.0 t), λ t. o.1 (⊎_elim (λ r. inl (r ∙ standing_stored v)) (λ r. inr (refl, r.1, r.2)) t));
    ungiven = λ t. absurd (true≢false (sym t ∙ e));
    given = λ t. h.given refl;
    pool = h.pool;
    some = h.some;
    last = λ v a.
        h.last v a ∙ ap (λ n. Some (record { version = n; pool = named_at named v n })) (sym (newest_same (job.Store (store.Vip u p)) m e (Some u) stored v ∙ newest_stored v));
    rises = h.rises;
    newer = all_then (SwitchesUpTo (λ v. named_at named v (learned vips v))) (SwitchesUpTo (λ v. named_at named v (learned stored v))) (switches_stored g) lines h.newer;
    used = h.used;
    waited = waited;
  }

  -- what is learned names a pool that is no lower than before
  learned_word : (w : VipWord) → vip_at vips u.vip ≡ w → learned vips u.vip ≡ learned_in w.phase w.cur w.next
  learned_word w e = ap (λ w. learned_in w.phase w.cur w.next) e

  learned_now : learned stored u.vip ≡ learned_in (phase_word u p).phase (phase_word u p).cur (phase_word u p).next
  learned_now = ap (λ w. learned_in w.phase w.cur w.next) (vip_here vips u.vip (phase_word u p) inside)

  pub no_lower : (before after : ℕ) → learned vips u.vip ≡ before → learned_in (phase_word u p).phase (phase_word u p).cur (phase_word u p).next ≡ after
      → named_at named u.vip before ≤ named_at named u.vip after
      → named_at named u.vip (learned vips u.vip) ≤ named_at named u.vip (learned stored u.vip)
  no_lower before after a b g =
      subst (λ n. named_at named u.vip n ≤ named_at named u.vip (learned stored u.vip)) (sym a) (subst (λ n. named_at named u.vip before ≤ named_at named u.vip n) (sym (learned_now ∙ b)) g)

-- each phase of an update is stored so
pub phase_versions : (k : Config) (lines : List Line) (vips : List VipWord) (numbers : NumberRows) (named : List (List ℕ)) (entries : List Entry) (mark : ℕ)
    (u : PoolUpdate) (p : Phase) → u.vip < length vips → JobAt k (Some u) vips (job.Store (store.Vip u p))
    → VersionsHold k lines (Some u) vips numbers named entries mark (job.Store (store.Vip u p))
    → VersionsHold k lines (Some u) (slice_set vips u.vip (phase_word u p)) numbers named entries mark (job.Draw (vip_draw u p))
phase_versions k lines vips numbers named entries mark u Steady i a h =
    versions_stored k lines vips numbers named entries mark u Steady (job.Draw (vip_draw u Steady)) i h (no_lower k lines vips numbers named entries mark u Steady (job.Draw (vip_draw u Steady)) i h u.given u.given (ap (λ w. learned_in w.phase w.cur w.next) a.1) refl (omega arith)) refl tt
phase_versions k lines vips numbers named entries mark u Recording i a h =
    versions_stored k lines vips numbers named entries mark u Recording (job.Draw (vip_draw u Recording)) i h (no_lower k lines vips numbers named entries mark u Recording (job.Draw (vip_draw u Recording)) i h u.replaced u.replaced (ap (λ w. learned_in w.phase w.cur w.next) a.1) refl (omega arith)) refl tt
phase_versions k lines vips numbers named entries mark u Holding i a h =
    versions_stored k lines vips numbers named entries mark u Holding (job.Draw (vip_draw u Holding)) i h (no_lower k lines vips numbers named entries mark u Holding (job.Draw (vip_draw u Holding)) i h u.replaced u.replaced (ap (λ w. learned_in w.phase w.cur w.next) a.1) refl (omega arith)) refl tt
phase_versions k lines vips numbers named entries mark u Transit i a h =
    versions_stored k lines vips numbers named entries mark u Transit (job.Draw (vip_draw u Transit)) i h (no_lower k lines vips numbers named entries mark u Transit (job.Draw (vip_draw u Transit)) i h u.replaced u.given (ap (λ w. learned_in w.phase w.cur w.next) a.1) refl (omega (arith, h.rises, h.given refl))) refl tt

-- ---- an update is over

module _ (k : Config) (lines : List Line) (vips : List VipWord) (numbers : NumberRows) (named : List (List ℕ)) (entries : List Entry) (mark index : ℕ) (u : PoolUpdate) (w : Wide k numbers named) (fits : UpdateFits k u) (last : vip_at vips u.vip ≡ steady u.given) (h : VersionsHold k lines (Some u) vips numbers named entries mark (job.Store (store.Filter u index))) where
  in_rows : u.vip < length numbers
  in_rows = omega (arith, fits.vip, w.numbers_fit.count)

  in_row : u.replaced < length (slice_index_or numbers u.vip [])
  in_row = omega (arith, fits.replaced, full_row k.layout.shape.versions numbers u.vip w.numbers_fit.each in_rows)

  cur_is : (vip_at vips u.vip).cur ≡ u.given
  cur_is = ap (λ w. w.cur) last

  -- the version that was replaced is the standing one, or another virtual address's is
  stands : (v : ℕ) → (v ≢ u.vip) → standing (Some u) vips v ≡ (vip_at vips v).cur
  stands v o =
      let other : (v == u.vip) ≡ false = grind (arith, nat_tests) in
      ap (λ b. if b then u.replaced else (vip_at vips v).cur) other

  stood : standing (Some u) vips u.vip ≡ u.replaced
  stood =
      let same : (u.vip == u.vip) ≡ true = grind (arith, nat_tests) in
      ap (λ b. if b then u.replaced else (vip_at vips u.vip).cur) same

  over_current : (v n : ℕ) → v < k.layout.vips → n < k.layout.shape.versions
      → (state_of v n (with_state u.vip u.replaced Draining numbers) ≡ Some Current) ↔ ((n ≡ (vip_at vips v).cur) ⊎ ⊥)
  over_current v n a b =
      state_cases numbers u.vip u.replaced Draining in_rows (λ o. (o ≡ Some Current) ↔ ((n ≡ (vip_at vips v).cur) ⊎ ⊥)) v n in_row
      (λ e f. (λ t. absurd (not_current t), λ t. ⊎_elim (λ r. absurd (fits.other (sym f ∙ (r ∙ (ap (λ z. (vip_at vips z).cur) e ∙ cur_is))))) absurd t))
      (λ d. at d (v == u.vip) refl)
    where
      not_current : Some Draining ≡ Some Current → ⊥
      not_current t = cc

      at : ((v ≡ u.vip) → (n ≡ u.replaced) → ⊥) → (q : Bool) → (v == u.vip) ≡ q
          → (state_of v n numbers ≡ Some Current) ↔ ((n ≡ (vip_at vips v).cur) ⊎ ⊥)
      at d true q =
          let e : v ≡ u.vip = grind (arith, nat_tests) in
          let o = h.current v n a b in (
            λ t. ⊎_elim (λ r. absurd (d e (r ∙ (ap (standing (Some u) vips) e ∙ stood)))) (λ r. inl (r.2 ∙ sym (ap (λ z. (vip_at vips z).cur) e ∙ cur_is))) (o.0 t),
            λ t. ⊎_elim (λ r. o.1 (inr (refl, e, r ∙ (ap (λ z. (vip_at vips z).cur) e ∙ cur_is)))) absurd t,
          )
      at d false q =
          let e : v ≢ u.vip = grind (arith, nat_tests) in
          let o = h.current v n a b in
          (λ t. ⊎_elim (λ r. inl (r ∙ stands v e)) (λ r. absurd (e r.1)) (o.0 t), λ t. ⊎_elim (λ r. o.1 (inl (r ∙ sym (stands v e)))) absurd t)

  was_current : state_of u.vip u.replaced numbers ≡ Some Current
  was_current = (h.current u.vip u.replaced fits.vip fits.replaced).1 (inl (sym stood))

  pub versions_over : VersionsHold k lines None vips (with_state u.vip u.replaced Draining numbers) named entries mark job.Free
  versions_over = record {
    current = over_current;
    ungiven = tt;
    given = tt;
    pool = h.pool;
    some = λ v n t.
        h.some v n (state_cases numbers u.vip u.replaced Draining in_rows (λ o. is_used_by o ≡ true → is_used numbers v n ≡ true) v n in_row (λ e f r. ap (λ z. is_used numbers z n) e ∙ (ap (λ z. is_used numbers u.vip z) f ∙ ap is_used_by was_current)) (λ d r. r) t);
    last = λ v a. h.last v a ∙ ap (λ n. Some (record { version = n; pool = named_at named v n })) (at v (v == u.vip) refl);
    rises = tt;
    newer = h.newer;
    used = all_then (λ e. is_used numbers e.key.vip e.version ≡ true) (λ e. is_used (with_state u.vip u.replaced Draining numbers) e.key.vip e.version ≡ true) (λ e t. state_cases numbers u.vip u.replaced Draining in_rows (λ o. is_used_by o ≡ true) e.key.vip e.version in_row (λ c d. refl) (λ d. t)) entries h.used;
    waited = tt;
  }
    where
      at : (v : ℕ) (q : Bool) → (v == u.vip) ≡ q → (if q then u.given else (vip_at vips v).cur) ≡ (vip_at vips v).cur
      at v true q =
          let e : v ≡ u.vip = grind (arith, nat_tests) in sym (ap (λ z. (vip_at vips z).cur) e ∙ cur_is)
      at v false q = refl

-- ---- a version is released

pub none_counted : {X : Type 0} (p : X → Bool) (xs : List X) → count_by p xs ≡ 0 → AllByRecursion (λ x. p x ≡ false) xs
none_counted p [] h = tt
none_counted p (x ∷ xs) h =
    at (p x) refl (sym (sum_by-cons (λ x. cond (p x) 1 0) x xs) ∙ h) (none_counted p xs)
  where
    at : (b : Bool) → p x ≡ b → cond b 1 0 + count_by p xs ≡ 0 → (count_by p xs ≡ 0 → AllByRecursion (λ x. p x ≡ false) xs)
        → AllByRecursion (λ x. p x ≡ false) (x ∷ xs)
    at true q g more = absurd (omega arith)
    at false q g more = (q, more (omega arith))

pub counted_none : {X : Type 0} (p : X → Bool) (xs : List X) → AllByRecursion (λ x. p x ≡ false) xs → count_by p xs ≡ 0
counted_none p [] a = refl
counted_none p (x ∷ xs) a =
    let rest = counted_none p xs a.1 in
    let head : cond {A = ℕ} (p x) 1 0 ≡ 0 = ap (λ (b : Bool). cond {A = ℕ} b 1 0) a.0 in
    omega (arith, sum_by-cons (λ x. cond (p x) 1 0) x xs, rest, head)

module _ (k : Config) (lines : List Line) (update : Option PoolUpdate) (vips : List VipWord) (numbers : NumberRows) (named : List (List ℕ)) (entries after : List Entry) (mark next vip version : ℕ) (j m : Job) (w : Wide k numbers named) (h : VersionsHold k lines update vips numbers named entries mark j) (given : is_ungiven j ≡ false) (still : is_ungiven m ≡ false) (drains : state_of vip version numbers ≡ Some Draining) where
  there : vip < length numbers
  there = state_inside numbers vip version Draining drains

  there_too : version < length (slice_index_or numbers vip [])
  there_too = slice_get_within (slice_index_or numbers vip []) version Draining drains

  no_longer : (o : Option PoolUpdate) → OnUngiven o m (λ u. state_of u.vip u.given (with_state vip version Free numbers) ≡ Some Free)
  no_longer None = tt
  no_longer (Some u) = λ t. absurd (true≢false (sym t ∙ still))

  new_on : (o : Option PoolUpdate) (v n : ℕ) → IsNew o j v n → IsNew o m v n
  new_on None v n t = t
  new_on (Some u) v n t = (still, t.1, t.2)

  new_back : (o : Option PoolUpdate) (v n : ℕ) → IsNew o m v n → IsNew o j v n
  new_back None v n t = t
  new_back (Some u) v n t = (given, t.1, t.2)

  not_free : Some Free ≡ Some Current → ⊥
  not_free t = cc

  not_draining : Some Draining ≡ Some Current → ⊥
  not_draining t = cc

  pub versions_released : AllByRecursion (λ e. is_used numbers e.key.vip e.version ≡ true) after
      → AllByRecursion (λ e. has_version vip version e ≡ false) after
      → JobWaited after (with_state vip version Free numbers) next m
      → VersionsHold k lines update vips (with_state vip version Free numbers) named after next m
  versions_released used none waited = record {
    current = λ v n a b.
        let o = h.current v n a b in
        state_cases numbers vip version Free there (λ r. (r ≡ Some Current) ↔ ((n ≡ standing update vips v) ⊎ IsNew update m v n)) v n there_too
        (λ e f. (λ t. absurd (not_free t), λ t. absurd (not_draining (sym (ap (λ z. state_of z n numbers) e ∙ (ap (λ z. state_of vip z numbers) f ∙ drains)) ∙ o.1 (sum_then (new_back update v n) t)))))
        (λ d. (λ t. sum_then (new_on update v n) (o.0 t), λ t. o.1 (sum_then (new_back update v n) t)));
    ungiven = no_longer update;
    given = given_same j m (still ∙ sym given) update (λ u. named_at named u.vip u.given ≡ u.pool) h.given;
    pool = h.pool;
    some = λ v n t.
        h.some v n (state_cases numbers vip version Free there (λ o. is_used_by o ≡ true → is_used numbers v n ≡ true) v n there_too (λ e f r. absurd (true≢false (sym r))) (λ d r. r) t);
    last = λ v a.
        h.last v a ∙ ap (λ n. Some (record { version = n; pool = named_at named v n })) (sym (newest_same j m (still ∙ sym given) update vips v));
    rises = h.rises;
    newer = h.newer;
    used = all_both (λ e. is_used numbers e.key.vip e.version ≡ true) (λ e. has_version vip version e ≡ false) (λ e. is_used (with_state vip version Free numbers) e.key.vip e.version ≡ true)
        (λ e t f. state_cases numbers vip version Free there (λ o. is_used_by o ≡ true) e.key.vip e.version there_too (λ c d. absurd (has_it e c d f)) (λ d. t)) after used none;
    waited = waited;
  }
    where
      has_it : (e : Entry) → e.key.vip ≡ vip → e.version ≡ version → has_version vip version e ≡ false → ⊥
      has_it e c d f = absurd (grind (arith, nat_tests))
