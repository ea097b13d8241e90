-- Who is told to refuse a change may: no version is free for it, and nothing that the controller does could free one.
use Rattle.std.proofs.Common.{◌≡◌, ℕ, zero, suc, ◌+◌, ◌<◌, ◌≤◌, Bool, true, false, not, ◌&&◌, ◌⊎◌, List, [], ◌∷◌, length, get_or, is_none, if◌then◌else◌, ◌==◌, slice_get, Some, None, Option, sym, refl, ap, ◌∙◌, subst, inl, inr, true≢false, arith}
use Rattle.std.proofs.lemmas.Bool.{and_parts}
use Rattle.std.proofs.lemmas.Bool.Decides.{nat_tests}
use Rattle.std.proofs.lemmas.Option.{slice_get-get_or, same_Some}
use Rattle.sr_inv_facts.specs.InShape.{ControllerFits, RowsFit}
use Rattle.sr_inv_facts.specs.InUpdate.{AllTaken, IsAtLeisure, MayBeRefused, NothingFree}
use Rattle.sr_inv_update.proofs.Rows.{full_row}
use Rattle.sr_machine.specs.Config.{Config}
use Rattle.sr_machine.specs.Telling.{full_change, is_at_leisure, may_refuse}
use Rattle.sr_machine.specs.declared.controller_view.ControllerView.{ControllerView}
use Rattle.sr_machine.specs.declared.job.Job.{Job}
use Rattle.sr_shadow.specs.Book.{count_of}
use Rattle.sr_shadow.specs.declared.entry.Entry.{Entry}
use Rattle.sr_update.specs.Numbers.{NumberRows, drained_from, first_drained, first_number, is_drained, is_free, least_free, or_after, row_of, state_of}
use Rattle.sr_update.specs.Updates.{has_come}
use Rattle.sr_update.specs.declared.give_change.GiveChange.{GiveChange}
use Rattle.sr_update.specs.declared.number_state.NumberState.{NumberState}
use Rattle.sr_update.specs.declared.number_state.NumberState.TheVariants.{Free, Current, Draining}
use Rattle.sr_machine.specs.declared.job.Job.TheVariants as job

none_passes : (test : ℕ → NumberState → Bool) (base : ℕ) (row : List NumberState) (i : ℕ) (is : NumberState) → first_number test base row ≡ None
    → slice_get row i ≡ Some is → test (base + i) is ≡ false
none_passes test base [] i is e q = cc
none_passes test base (st ∷ row) i is e q = at (test base st) refl i e q (none_passes test (base + 1) row)
  where
    at : (b : Bool) → test base st ≡ b → (i : ℕ) → (if b then Some base else first_number test (base + 1) row) ≡ None
        → slice_get (st ∷ row) i ≡ Some is
        → ((i : ℕ) (is : NumberState) → first_number test (base + 1) row ≡ None → slice_get row i ≡ Some is → test ((base + 1) + i) is ≡ false)
        → test (base + i) is ≡ false
    at true t i f r more = cc
    at false t zero f r more =
        let here : base + 0 ≡ base = omega arith in
        ap (λ n. test n is) here ∙ (ap (test base) (sym (same_Some st is r)) ∙ t)
    at false t (suc i) f r more =
        let there : base + suc i ≡ (base + 1) + i = omega arith in ap (λ n. test n is) there ∙ more i is f r

none_drained : (base : ℕ) (rows : NumberRows) (es : List Entry) (i n : ℕ) → drained_from base rows es ≡ None
    → state_of i n rows ≡ Some Draining
    → 1 ≤ count_of (base + i) n es
none_drained base [] es i n e q = cc
none_drained base (row ∷ rows) es i n e q = at (first_number (is_drained base es) 0 row) refl i e q (none_drained (base + 1) rows es)
  where
    none_zero : (m : ℕ) → (m == 0) ≡ false → 1 ≤ m
    none_zero m t = grind (arith, nat_tests)

    at : (o : Option ℕ) → first_number (is_drained base es) 0 row ≡ o → (i : ℕ) → or_after base o (drained_from (base + 1) rows es) ≡ None
        → state_of i n (row ∷ rows) ≡ Some Draining
        → ((i n : ℕ) → drained_from (base + 1) rows es ≡ None → state_of i n rows ≡ Some Draining → 1 ≤ count_of ((base + 1) + i) n es)
        → 1 ≤ count_of (base + i) n es
    at (Some m) t i f r more = cc
    at None t zero f r more =
        let here : base + 0 ≡ base = omega arith in
        let zero_n : 0 + n ≡ n = omega arith in
        subst (λ v. 1 ≤ count_of v n es) (sym here) (none_zero (count_of base n es) (ap (λ m. count_of base m es == 0) (sym zero_n) ∙ none_passes (is_drained base es) 0 row n Draining t r))
    at None t (suc i) f r more =
        let there : (base + 1) + i ≡ base + suc i = omega arith in subst (λ v. 1 ≤ count_of v n es) there (more i n f r)

module _ (k : Config) (numbers : NumberRows) (es : List Entry) (w : RowsFit k.layout numbers) where
  -- where no version is free and none that drains is without entries, all are taken
  all_taken : (vip : ℕ) → vip < k.layout.vips → least_free vip numbers ≡ None → first_drained numbers es ≡ None
      → AllTaken k.layout.shape.versions numbers es vip
  all_taken vip v free drained n b =
      at (slice_get-get_or (row_of vip numbers) n Free inside)
    where
      inside : n < length (row_of vip numbers)
      inside = omega (arith, b, full_row k.layout.shape.versions numbers vip w.each (omega (arith, v, w.count)))

      at : state_of vip n numbers ≡ Some (get_or (row_of vip numbers) n Free)
          → (state_of vip n numbers ≡ Some Current) ⊎ ((state_of vip n numbers ≡ Some Draining) × (1 ≤ count_of vip n es))
      at q = by (get_or (row_of vip numbers) n Free) q
        where
          by : (is : NumberState) → state_of vip n numbers ≡ Some is
              → (state_of vip n numbers ≡ Some Current) ⊎ ((state_of vip n numbers ≡ Some Draining) × (1 ≤ count_of vip n es))
          by Free r = absurd (true≢false (none_passes (λ number. is_free) 0 (row_of vip numbers) n Free free r))
          by Current r = inl r
          by Draining r =
              let there : 0 + vip ≡ vip = omega arith in
              inr (r, subst (λ z. 1 ≤ count_of z n es) there (none_drained 0 numbers es vip n drained r))

leisure_is : (j : Job) → is_at_leisure j ≡ true → IsAtLeisure j
leisure_is job.Free e = tt
leisure_is (job.Look pipe) e = tt
leisure_is (job.Draw d) e = cc
leisure_is (job.Store d) e = cc
leisure_is (job.Pass g pipe w) e = cc
leisure_is (job.Drain pipe count w) e = cc
leisure_is (job.Hit from ms key place n) e = cc

none_is : {X : Type 0} (o : Option X) → is_none o ≡ true → o ≡ None
none_is None e = refl
none_is (Some x) e = cc

module _ (k : Config) (c : ControllerView) (w : ControllerFits k c) (vip_below : (g : GiveChange) (rest : List GiveChange) → c.gives ≡ g ∷ rest → g.vip < k.layout.vips) where
  full_is : (gives : List GiveChange) → c.gives ≡ gives → first_drained c.numbers c.book.entries ≡ None
      → not (is_none (full_change c.clock c.numbers gives)) ≡ true
      → NothingFree k.layout.shape.versions c.numbers c.book.entries gives
  full_is [] e d t = absurd (true≢false (sym t))
  full_is (g ∷ rest) e d t =
      all_taken k c.numbers c.book.entries w.numbers g.vip (vip_below g rest e) (by (has_come g.at_ms c.clock) (least_free g.vip c.numbers) t) d
    where
      by : (b : Bool) (o : Option ℕ) → not (is_none (if b && is_none o then Some g else None)) ≡ true → o ≡ None
      by true None q = refl
      by true (Some n) q = absurd (true≢false (sym q))
      by false o q = absurd (true≢false (sym q))

  pub refusable : may_refuse c ≡ true → MayBeRefused k.layout.shape.versions c.update c.numbers c.book.entries c.gives c.job
  refusable t =
      let a = and_parts (not c.refusing) (is_none c.update && (is_at_leisure c.job && (is_none (first_drained c.numbers c.book.entries) && not (is_none (full_change c.clock c.numbers c.gives))))) t in
      let b = and_parts (is_none c.update) (is_at_leisure c.job && (is_none (first_drained c.numbers c.book.entries) && not (is_none (full_change c.clock c.numbers c.gives)))) a.1 in
      let d = and_parts (is_at_leisure c.job) (is_none (first_drained c.numbers c.book.entries) && not (is_none (full_change c.clock c.numbers c.gives))) b.1 in
      let e = and_parts (is_none (first_drained c.numbers c.book.entries)) (not (is_none (full_change c.clock c.numbers c.gives))) d.1 in
      record {
        none = none_is c.update b.0;
        leisure = leisure_is c.job d.0;
        full = full_is c.gives refl (none_is (first_drained c.numbers c.book.entries) e.0) e.1;
      }
