-- Who is picked hasn't ended its round, and where nobody is picked everybody has.
use Rattle.std.proofs.Common.{◌≡◌, ◌∙◌, ℕ, zero, suc, ◌+◌, ◌-◌, ◌%◌, ◌<◌, ◌≤◌, ◌&&◌, Bool, true, false, not, if◌then◌else◌, List, [], ◌∷◌, ◌++◌, None, Some, refl, sym, ap, subst, arith, find}
use Rattle.std.specs.List.{list_all, range_with_len}
use Rattle.std.proofs.Math.Nat.{mod-lt}
use Rattle.std.proofs.lemmas.List.Folds.{list_all-append}
use Rattle.sr_gen.specs.Generator.{drawn}
use Rattle.sr_picks.specs.Play.{Play, has_ended, is_over, order_from, picked, pipes_of}

module _ {A : Type 0} (test : A → Bool) where
  passes_by : (y : A) (ys : List A) (x : A) (b : Bool) → test y ≡ b → (find test ys ≡ Some x → test x ≡ true)
      → (if b then Some y else find test ys) ≡ Some x → test x ≡ true
  passes_by y ys x true is next e = let same : y ≡ x = cc e in subst (λ z. test z ≡ true) same is
  passes_by y ys x false is next e = next e

  -- what is found passes the test
  found_passes : (xs : List A) (x : A) → find test xs ≡ Some x → test x ≡ true
  found_passes [] x e = absurd (cc e)
  found_passes (y ∷ ys) x e = passes_by y ys x (test y) refl (found_passes ys x) e

module _ {A : Type 0} (test : A → Bool) where
  none_by : (y : A) (ys : List A) (b : Bool) → (find (λ x. not (test x)) ys ≡ None → list_all test ys ≡ true)
      → (if not b then Some y else find (λ x. not (test x)) ys) ≡ None → (b && list_all test ys) ≡ true
  none_by y ys true next e = next e
  none_by y ys false next e = absurd (cc e)

  -- where nothing fails it all pass
  none_fails : (xs : List A) → find (λ x. not (test x)) xs ≡ None → list_all test xs ≡ true
  none_fails [] e = refl
  none_fails (y ∷ ys) e = none_by y ys (test y) (none_fails ys) e

pub range_parts : (a m n : ℕ) → range_with_len a (m + n) ≡ range_with_len a m ++ range_with_len (a + m) n
range_parts a zero n =
    let none : zero + n ≡ n = omega arith in
    let here : a ≡ a + 0 = omega arith in
    ap (range_with_len a) none ∙ ap (λ b. range_with_len b n) here
range_parts a (suc m) n =
    let more : suc m + n ≡ suc (m + n) = omega arith in
    let on : a + 1 + m ≡ a + suc m = omega arith in
    ap (range_with_len a) more ∙ ap (λ xs. a ∷ xs) (range_parts (a + 1) m n)
    ∙ ap (λ b. a ∷ range_with_len (a + 1) m ++ range_with_len b n) on

pub both : (a b : Bool) → (a && b) ≡ true → (b && a) ≡ true
both true true e = refl
both true false e = absurd (cc e)
both false b e = absurd (cc e)

-- all of an order are all actors
all_ordered : (test : ℕ → Bool) (pipes i : ℕ) → i ≤ pipes → list_all test (order_from pipes i) ≡ true
    → list_all test (range_with_len 0 (pipes + 1)) ≡ true
all_ordered test pipes i h e =
    let parts : i + (pipes + 1 - i) ≡ pipes + 1 = omega (arith, h) in
    let split = sym (list_all-append test (range_with_len i (pipes + 1 - i)) (range_with_len 0 i)) ∙ e in
    ap (λ n. list_all test (range_with_len 0 n)) (sym parts)
    ∙ ap (list_all test) (range_parts 0 i (pipes + 1 - i))
    ∙ list_all-append test (range_with_len 0 i) (range_with_len (0 + i) (pipes + 1 - i))
    ∙ ap (λ b. list_all test (range_with_len 0 i) && list_all test (range_with_len b (pipes + 1 - i))) (let none : 0 + i ≡ i = omega arith in none)
    ∙ both (list_all test (range_with_len i (pipes + 1 - i))) (list_all test (range_with_len 0 i)) split

is_not : (b : Bool) → not b ≡ true → b ≡ false
is_not true e = absurd (cc e)
is_not false e = refl

-- who is found from an actor on goes on, and where nobody is found the round is over
pub found_goes_on : (p : Play) (first i : ℕ) → find (λ j. not (has_ended p j)) (order_from (pipes_of p) first) ≡ Some i → has_ended p i ≡ false
found_goes_on p first i e = is_not (has_ended p i) (found_passes (λ j. not (has_ended p j)) (order_from (pipes_of p) first) i e)

pub none_found : (p : Play) (first : ℕ) → first ≤ pipes_of p → find (λ j. not (has_ended p j)) (order_from (pipes_of p) first) ≡ None
    → is_over p ≡ true
none_found p first h e =
    all_ordered (has_ended p) (pipes_of p) first h (none_fails (has_ended p) (order_from (pipes_of p) first) e)

pub picked_goes_on : (p : Play) (x i : ℕ) → picked p x ≡ Some i → has_ended p i ≡ false
picked_goes_on p x i e = found_goes_on p (drawn x % (pipes_of p + 1)) i e

pub none_picked : (p : Play) (x : ℕ) → picked p x ≡ None → is_over p ≡ true
none_picked p x e =
    let some : 0 < pipes_of p + 1 = omega arith in
    let below : drawn x % (pipes_of p + 1) ≤ pipes_of p = omega (arith, mod-lt (drawn x) some) in
    none_found p (drawn x % (pipes_of p + 1)) below e
