-- The lines of the opening state stand in order.
use Rattle.std.proofs.Common.{◌≡◌, ℕ, zero, suc, ◌+◌, ◌<◌, ◌≤◌, nat_lt, ◌==◌, ◌&&◌, not, true, false, List, [], ◌∷◌, length, is_some, if◌then◌else◌, slice_get, option_and_then, sym, refl, ap, ◌∙◌, subst, arith}
use Rattle.std.proofs.lemmas.Bool.Decides.{nat_tests}
use Rattle.std.specs.List.{AllByRecursion, list_any}
use Rattle.sr_base.specs.declared.change.Change.{Change}
use Rattle.sr_inv_facts.proofs.Lists.{all_then}
use Rattle.sr_inv_facts.proofs.OpeningLines.{opened_lines, opening_printed}
use Rattle.sr_inv_facts.specs.Fitted.{IsFitted}
use Rattle.sr_inv_facts.specs.InCauses.{setup_of}
use Rattle.sr_inv_facts.specs.InTicks.{AllOutBefore}
use Rattle.sr_inv_facts.specs.Laws.{OpensWith}
use Rattle.sr_inv_order.proofs.Grouped.{pools_count}
use Rattle.sr_inv_order.proofs.Rising.{Untouched, after_all, and_false, and_true, none_passes, not_false, unshared}
use Rattle.sr_inv_order.specs.Meeting.{EachLine, OrderKept}
use Rattle.sr_law.specs.Groups.{after_gives, goes_on, is_opening_give, keeps_groups, last_of_update, names_next_pool, was_given_past}
use Rattle.sr_law.specs.Order.{meets_order}
use Rattle.sr_law.specs.Pools.{numbered, pool_of, pools_from}
use Rattle.sr_law.specs.Ranges.{in_range}
use Rattle.sr_law.specs.Rising.{has_new_ticks, rises, share_tick}
use Rattle.sr_law.specs.Taken.{keeps_places}
use Rattle.sr_law.specs.Ticks.{out_of, start_of}
use Rattle.sr_law.specs.declared.line.Line.{Line}
use Rattle.sr_machine.specs.Config.{Config}
use Rattle.sr_machine.specs.Opening.{opening_line}

-- the line was drawn before this virtual address's, and gives another one its pool
record IsEarly (vip : ℕ) (l : Line) : Type 0 where
  out : out_of l ≤ vip
  start : start_of l ≤ vip
  other : was_given_past vip 1 l ≡ false

earlier : (vip n : ℕ) → n ≤ vip → AllByRecursion (IsEarly vip) (opened_lines n)
earlier vip zero h = tt
earlier vip (suc n) h =
    (record { out = omega arith; start = omega arith; other = and_false (n == vip) true (grind (arith, nat_tests)) }, earlier vip n (omega arith))

pub opened_count : (n : ℕ) → length (opened_lines n) ≡ n
opened_count zero = refl
opened_count (suc n) = ap suc (opened_count n)

first_there : (from vip : ℕ) (first : List (List ℕ)) (changes : List Change) → vip < length first
    → is_some (option_and_then (λ own. numbered own 1) (slice_get (pools_from from first changes) vip)) ≡ true
first_there from vip [] changes h = absurd (omega arith)
first_there from zero (f ∷ rest) changes h = refl
first_there from (suc vip) (f ∷ rest) changes h = first_there (from + 1) vip rest changes (omega arith)

-- each virtual address has a first pool
first_pool_there : (k : Config) → IsFitted k → (vip : ℕ) → vip < k.layout.vips → is_some (pool_of k.pools vip 1) ≡ true
first_pool_there k f vip h =
    ap (λ ps. is_some (pool_of ps vip 1)) f.pools ∙ first_there 0 vip f.first k.changes (subst (λ n. vip < n) (sym f.fits.vips) h)

module _ (k : Config) (f : IsFitted k) (vip : ℕ) (h : vip < k.layout.vips) where
  abbrev pub before : List Line
  before = opened_lines vip

  early : AllByRecursion (IsEarly vip) before
  early = earlier vip vip (omega arith)

  abbrev pub line : Line
  line = opening_line vip

  below : nat_lt vip (length k.pools) ≡ true
  below = let count = pools_count k f in grind (arith, nat_tests)

  groups : keeps_groups (setup_of k) before line ≡ true
  unfolding keeps_groups
  groups =
      let here : nat_lt (length before) (length k.pools) ≡ true = ap (λ n. nat_lt n (length k.pools)) (opened_count vip) ∙ below in
      let give : is_opening_give (length before) line ≡ true = ap (λ n. is_opening_give n line) (opened_count vip) ∙ grind (arith, nat_tests) in
      let new : not (list_any (was_given_past vip 1) before) ≡ true =
      not_false (list_any (was_given_past vip 1) before) (none_passes (was_given_past vip 1) before (all_then (IsEarly vip) (λ l. was_given_past vip 1 l ≡ false) (λ l e. e.other) before early)) in
      let next : names_next_pool k.pools before line ≡ true =
      and_true (is_some (pool_of k.pools vip 1)) (not (list_any (was_given_past vip 1) before)) (first_pool_there k f vip h) new in
      subst (λ b. ((if b then is_opening_give (length before) line else goes_on (last_of_update (after_gives (length k.pools) before)) line) && names_next_pool k.pools before line) ≡ true)
      (sym here) (and_true (is_opening_give (length before) line) (names_next_pool k.pools before line) give next)

  untouched_by : (l : Line) → IsEarly vip l → Untouched (vip + 1) l
  untouched_by l e =
      let out = e.out in
      let start = e.start in
      (grind (arith, nat_tests), grind (arith, nat_tests))

  rising : rises before line ≡ true
  unfolding rises
  rising =
      let outs : AllOutBefore (vip + 1) before =
      all_then (IsEarly vip) (λ l. out_of l < vip + 1) (λ l e. omega (arith, e.out)) before early in
      let clean : AllByRecursion (Untouched (vip + 1)) before = all_then (IsEarly vip) (Untouched (vip + 1)) untouched_by before early in
      and_true _ true
      (and_true _ (has_new_ticks before line) (and_true _ _ (after_all (vip + 1) before line refl outs) (grind (arith, nat_tests)))
      (not_false (list_any (share_tick line) before) (unshared line before clean clean)))
      refl

  ranged : in_range (setup_of k) line ≡ true
  unfolding in_range
  ranged = and_true _ true (and_true _ true (and_true _ true below refl) refl) refl

  pub opening_ordered : meets_order (setup_of k) before line ≡ true
  unfolding keeps_places meets_order
  opening_ordered =
      and_true _ true (and_true _ true (and_true _ (in_range (setup_of k) line) (and_true (keeps_groups (setup_of k) before line) (rises before line) groups rising) ranged) refl) refl

opened_ordered : (k : Config) → IsFitted k → (n : ℕ) → n ≤ k.layout.vips
    → EachLine (λ before l. meets_order (setup_of k) before l ≡ true) (opened_lines n)
opened_ordered k f zero h = tt
opened_ordered k f (suc n) h = (opening_ordered k f n (omega arith), opened_ordered k f n (omega arith))

pub order_opens : OpensWith OrderKept
order_opens k f =
    subst (EachLine (λ before l. meets_order (setup_of k) before l ≡ true)) (sym (opening_printed k))
    (opened_ordered k f k.layout.vips (omega arith))
