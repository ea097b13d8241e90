-- Each step that changes which versions are in use keeps what is said of them.
use Rattle.std.proofs.Common.{◌≡◌, ℕ, ◌<◌, ◌≤◌, Bool, true, false, not, ◌≢◌, ◌⊎◌, ◌↔◌, List, [], ◌∷◌, length, if◌then◌else◌, ◌==◌, slice_index_or, Some, None, sym, refl, ap, ◌∙◌, subst, inl, inr, ⊎_elim, true≢false, arith}
use Rattle.std.proofs.lemmas.Bool.Decides.{nat_tests}
use Rattle.std.specs.Option.{option_or}
use Rattle.sr_base.specs.declared.vip_word.Phase.TheVariants.{Recording}
use Rattle.sr_base.specs.declared.vip_word.VipWord.{VipWord}
use Rattle.sr_inv_facts.proofs.Lists.{all_then}
use Rattle.sr_inv_facts.specs.InShape.{RowsFit}
use Rattle.sr_inv_facts.specs.InUpdate.{IsNew, SwitchesUpTo, UpdateFits, VersionsHold, is_used, is_used_by, newest, pool_given, standing}
use Rattle.sr_inv_update.proofs.Rows.{full_row, named_cases, named_here, state_cases}
use Rattle.sr_law.specs.Given.{last_given, last_version, of_version}
use Rattle.sr_law.specs.declared.line.Line.{Line}
use Rattle.sr_machine.specs.Config.{Config}
use Rattle.sr_machine.specs.Deciding.{learned, learned_in, named_at, vip_at, with_named}
use Rattle.sr_machine.specs.Reads.{steady}
use Rattle.sr_machine.specs.declared.pool_update.PoolUpdate.{PoolUpdate}
use Rattle.sr_shadow.specs.declared.entry.Entry.{Entry}
use Rattle.sr_update.specs.Numbers.{NumberRows, is_free, state_of, with_state}
use Rattle.sr_update.specs.declared.number_state.NumberState.{NumberState}
use Rattle.sr_update.specs.declared.number_state.NumberState.TheVariants.{Current}
use Rattle.sr_machine.specs.declared.draw.Draw.TheVariants as draw
use Rattle.sr_machine.specs.declared.job.Job.TheVariants as job
use Rattle.sr_law.specs.declared.line.Line.TheVariants as line

-- what holds of the lists of versions
pub record Wide (k : Config) (numbers : NumberRows) (named : List (List ℕ)) : Type 0 where
  pub numbers_fit : RowsFit k.layout numbers
  pub named_fit : RowsFit k.layout named

-- a version that was in use is in use after another was written
used_on : (numbers : NumberRows) (a b : ℕ) (is : NumberState) (inside : a < length numbers) (row : b < length (slice_index_or numbers a []))
    → not (is_free is) ≡ true → (v n : ℕ) → is_used numbers v n ≡ true → is_used (with_state a b is numbers) v n ≡ true
used_on numbers a b is inside row used v n h =
    state_cases numbers a b is inside (λ o. is_used_by o ≡ true) v n row (λ e f. used) (λ d. h)

-- ---- the Given line is drawn

module _ (k : Config) (lines : List Line) (vips : List VipWord) (numbers : NumberRows) (named : List (List ℕ)) (entries : List Entry) (mark x : ℕ) (u : PoolUpdate) (w : Wide k numbers named) (fits : UpdateFits k u) (first : vip_at vips u.vip ≡ steady u.replaced) (some_pool : 1 ≤ u.pool) (h : VersionsHold k lines (Some u) vips numbers named entries mark (job.Draw (draw.Given u))) where
  inside : u.vip < length numbers
  inside = omega (arith, fits.vip, w.numbers_fit.count)

  inside_named : u.vip < length named
  inside_named = omega (arith, fits.vip, w.named_fit.count)

  row : u.given < length (slice_index_or numbers u.vip [])
  row = omega (arith, fits.given, full_row k.layout.shape.versions numbers u.vip w.numbers_fit.each inside)

  row_named : u.given < length (slice_index_or named u.vip [])
  row_named = omega (arith, fits.given, full_row k.layout.shape.versions named u.vip w.named_fit.each inside_named)

  ungiven_new : (v n : ℕ) → IsNew (Some u) (job.Draw (draw.Given u)) v n → ⊥
  ungiven_new v n t = true≢false t.0

  given_current : (v n : ℕ) → v < k.layout.vips → n < k.layout.shape.versions
      → (state_of v n (with_state u.vip u.given Current numbers) ≡ Some Current) ↔ ((n ≡ standing (Some u) vips v) ⊎ IsNew (Some u) (job.Draw (draw.Comes u Recording)) v n)
  given_current v n a b =
      state_cases numbers u.vip u.given Current inside (λ o. (o ≡ Some Current) ↔ ((n ≡ standing (Some u) vips v) ⊎ IsNew (Some u) (job.Draw (draw.Comes u Recording)) v n)) v n row
      (λ e f. (λ t. inr (refl, e, f), λ t. refl))
      (λ d. let o = h.current v n a b in (λ t. ⊎_elim inl (λ r. absurd (ungiven_new v n r)) (o.0 t), λ t. ⊎_elim (λ r. o.1 (inl r)) (λ r. absurd (d r.1 r.2)) t))

  given_pool : (v n : ℕ)
      → named_at (with_named u.vip u.given u.pool named) v n ≡ pool_given (last_version (line.Given x u.vip u.given u.pool ∷ lines) v n)
  given_pool v n =
      named_cases named u.vip u.given u.pool inside_named (λ p. p ≡ pool_given (last_version (line.Given x u.vip u.given u.pool ∷ lines) v n)) v n row_named
      (λ e f. at (u.vip == v) (u.given == n) refl refl (grind (arith, nat_tests)) (grind (arith, nat_tests)))
      (λ d. other d (u.vip == v) (u.given == n) refl refl)
    where
      at : (p q : Bool) → (u.vip == v) ≡ p → (u.given == n) ≡ q → p ≡ true → q ≡ true
          → u.pool ≡ pool_given (option_or (of_version n (if p then Some (record { version = u.given; pool = u.pool }) else None)) (last_version lines v n))
      at true true a b c d = ap (λ z. pool_given (option_or (if z then Some (record { version = u.given; pool = u.pool }) else None) (last_version lines v n))) (sym b)
      at true false a b c d = cc
      at false q a b c d = cc

      other : (v ≡ u.vip → n ≡ u.given → ⊥) → (p q : Bool) → (u.vip == v) ≡ p → (u.given == n) ≡ q
          → named_at named v n ≡ pool_given (option_or (of_version n (if p then Some (record { version = u.given; pool = u.pool }) else None)) (last_version lines v n))
      other d true true a b =
          let e : v ≡ u.vip = grind (arith, nat_tests) in
          let f : n ≡ u.given = grind (arith, nat_tests) in
          absurd (d e f)
      other d true false a b = h.pool v n ∙ ap (λ z. pool_given (option_or (if z then Some (record { version = u.given; pool = u.pool }) else None) (last_version lines v n))) (sym b)
      other d false q a b = h.pool v n

  given_some : (v n : ℕ) → is_used (with_state u.vip u.given Current numbers) v n ≡ true
      → 1 ≤ named_at (with_named u.vip u.given u.pool named) v n
  given_some v n =
      named_cases named u.vip u.given u.pool inside_named (λ p. is_used (with_state u.vip u.given Current numbers) v n ≡ true → 1 ≤ p) v n row_named (λ e f t. some_pool)
      (λ d t. h.some v n (state_cases numbers u.vip u.given Current inside (λ o. is_used_by o ≡ true → is_used numbers v n ≡ true) v n row (λ e f. absurd (d e f)) (λ g r. r) t))

  -- the pool of another version
  named_other : (v n : ℕ) → ((v ≡ u.vip) → (n ≡ u.given) → ⊥) → named_at (with_named u.vip u.given u.pool named) v n ≡ named_at named v n
  named_other v n d =
      named_cases named u.vip u.given u.pool inside_named (λ p. p ≡ named_at named v n) v n row_named (λ e f. absurd (d e f)) (λ g. refl)

  given_last : (v : ℕ) → v < k.layout.vips
      → last_given (line.Given x u.vip u.given u.pool ∷ lines) v
      ≡ Some (record {
        version =
            newest (Some u) vips (job.Draw (draw.Comes u Recording)) v;
        pool = named_at (with_named u.vip u.given u.pool named) v (newest (Some u) vips (job.Draw (draw.Comes u Recording)) v);
      })
  given_last v a = at (u.vip == v) (v == u.vip) refl refl
    where
      at : (p q : Bool) → (u.vip == v) ≡ p → (v == u.vip) ≡ q
          → option_or (if p then Some (record { version = u.given; pool = u.pool }) else None) (last_given lines v)
          ≡ Some (record {
            version =
                (if q then u.given else (vip_at vips v).cur);
            pool = named_at (with_named u.vip u.given u.pool named) v (if q then u.given else (vip_at vips v).cur);
          })
      at true true c d =
          let e : v ≡ u.vip = grind (arith, nat_tests) in
          ap (λ p. Some (record { version = u.given; pool = p })) (sym (ap (λ z. named_at (with_named u.vip u.given u.pool named) z u.given) e ∙ named_here named u.vip u.given u.pool inside_named row_named))
      at true false c d = absurd (grind (arith, nat_tests))
      at false true c d = absurd (grind (arith, nat_tests))
      at false false c d =
          let e : v ≢ u.vip = grind (arith, nat_tests) in
          let old : newest (Some u) vips (job.Draw (draw.Given u)) v ≡ (vip_at vips v).cur = ap (λ z. if z then u.replaced else (vip_at vips v).cur) d in
          h.last v a ∙ (ap (λ n. Some (record { version = n; pool = named_at named v n })) old ∙ ap (λ p. Some (record { version = (vip_at vips v).cur; pool = p })) (sym (named_other v (vip_at vips v).cur (λ f g. e f))))

  learned_first : learned vips u.vip ≡ u.replaced
  learned_first = ap (λ w. learned_in w.phase w.cur w.next) first

  -- what is learned doesn't name the new pool yet
  learned_other : (v : ℕ) → named_at (with_named u.vip u.given u.pool named) v (learned vips v) ≡ named_at named v (learned vips v)
  learned_other v = named_other v (learned vips v) (λ e f. fits.other (sym learned_first ∙ (ap (learned vips) (sym e) ∙ f)))

  switches_other : (l : Line) → SwitchesUpTo (λ v. named_at named v (learned vips v)) l
      → SwitchesUpTo (λ v. named_at (with_named u.vip u.given u.pool named) v (learned vips v)) l
  switches_other (line.Switched out v to) s = subst (λ n. to ≤ n) (sym (learned_other v)) s
  switches_other l s = tt

  pub versions_given : VersionsHold k (line.Given x u.vip u.given u.pool ∷ lines) (Some u) vips (with_state u.vip u.given Current numbers) (with_named u.vip u.given u.pool named) entries mark (job.Draw (draw.Comes u Recording))
  versions_given = record {
    current = given_current;
    ungiven = λ t. absurd (true≢false (sym t));
    given = λ t. named_here named u.vip u.given u.pool inside_named row_named;
    pool = given_pool;
    some = given_some;
    last = given_last;
    rises = subst (λ n. n < u.pool) (sym (named_other u.vip u.replaced (λ e f. fits.other f))) h.rises;
    newer = (tt, all_then (SwitchesUpTo (λ v. named_at named v (learned vips v))) (SwitchesUpTo (λ v. named_at (with_named u.vip u.given u.pool named) v (learned vips v))) switches_other lines h.newer);
    used = all_then (λ e. is_used numbers e.key.vip e.version ≡ true) (λ e. is_used (with_state u.vip u.given Current numbers) e.key.vip e.version ≡ true) (λ e t. used_on numbers u.vip u.given Current inside row refl e.key.vip e.version t) entries h.used;
    waited = tt;
  }
