-- Numbers in order are 1, 2 and so on exactly where they begin at 1 and each up to their count is there once.
use Rattle.std.proofs.Common.{◌≡◌, ℕ, zero, suc, ◌+◌, ◌<◌, ◌≤◌, ◌==◌, cond, List, [], ◌∷◌, length, get_or, refl, sym, ap, ◌∙◌, subst, inl, inr, nat_cmp, arith}
use Rattle.std.specs.Prelude.{All}
use Rattle.std.specs.List.{range_with_len}
use Rattle.std.specs.List.Sorted.{IsPermutation, IsSorted}
use Rattle.std.proofs.lemmas.Bool.{eq-eqb, ne_eqb, cases_lt}
use Rattle.std.proofs.lemmas.List.FromFn.{get_or-range_with_len}
use Rattle.std.proofs.lemmas.List.Sums.{sum_by-cons}
use Rattle.std.proofs.lemmas.List.Sorted.{IsNonDecreasingBy-from_sort, IsPermutation-sym, All-permutation, length_permutation, sum_by-IsPermutation}
use Rattle.sr_run.specs.Numbering.{IsNumbering, times}

-- they begin at `low` and none is smaller than the one before it
abbrev Rises : ℕ → List ℕ → Type 0
Rises low [] = Unit {0}
Rises low (x ∷ xs) = (low ≤ x) × Rises x xs

count_cons : (n x : ℕ) (xs : List ℕ) → times n (x ∷ xs) ≡ cond (x == n) 1 0 + times n xs
count_cons n x xs = sum_by-cons (λ y. cond (y == n) 1 0) x xs

count_same : (n : ℕ) (xs : List ℕ) → times n (n ∷ xs) ≡ 1 + times n xs
count_same n xs = count_cons n n xs ∙ ap (λ b. cond b 1 0 + times n xs) (eq-eqb n n refl)

count_other : (n x : ℕ) (xs : List ℕ) → (x ≡ n → ⊥) → times n (x ∷ xs) ≡ times n xs
count_other n x xs differs =
    let e : times n (x ∷ xs) ≡ 0 + times n xs = count_cons n x xs ∙ ap (λ b. cond b 1 0 + times n xs) (ne_eqb x n differs) in
    omega arith

-- no number below the first is there
none_below : (n low : ℕ) (xs : List ℕ) → n < low → Rises low xs → times n xs ≡ 0
none_below n low [] below rises = refl
none_below n low (x ∷ xs) below rises = count_other n x xs (λ e. absurd (omega arith)) ∙ none_below n x xs (omega arith) rises.1

-- each number from `low` on, as many as they are, is there once
abbrev Once : ℕ → List ℕ → Type 0
Once low xs = (n : ℕ) → low ≤ n → n < low + length xs → times n xs ≡ 1

-- where `low` isn't there, they begin above it
rises_more : (low : ℕ) (xs : List ℕ) → Rises low xs → times low xs ≡ 0 → Rises (low + 1) xs
rises_more low [] rises none = tt
rises_more low (x ∷ xs) rises none =
    let differs : x ≡ low → ⊥ = λ e. let one : times low (x ∷ xs) ≡ 1 + times low xs = subst (λ y. times low (y ∷ xs) ≡ 1 + times low xs) (sym e) (count_same low xs) in absurd (omega arith) in
    (above x low rises.0 differs, rises.1)
  where
    above : (x low : ℕ) → low ≤ x → (x ≡ low → ⊥) → low + 1 ≤ x
    above x low le differs = elim (cases_lt low x) [ inl h ↦ omega arith | inr h ↦ absurd (differs (omega arith)) ]

-- the first is `low`
first_is : (low x : ℕ) (xs : List ℕ) → Rises low (x ∷ xs) → Once low (x ∷ xs) → x ≡ low
first_is low x xs rises once = elim (cases_lt low x) [
  | inl h ↦
      let none : times low (x ∷ xs) ≡ 0 = count_other low x xs (λ e. absurd (omega arith)) ∙ none_below low x xs h rises.1 in
      let one : times low (x ∷ xs) ≡ 1 = once low (omega arith) (omega arith) in
      absurd (omega arith)
  | inr h ↦ let le : low ≤ x = rises.0 in omega arith
]

rest_once : (low : ℕ) (xs : List ℕ) → Once low (low ∷ xs) → Once (low + 1) xs
rest_once low xs once n from to = sym (count_other n low xs (λ e. absurd (omega arith))) ∙ once n (omega arith) (omega arith)

rest_rises : (low : ℕ) (xs : List ℕ) → Rises low xs → Once low (low ∷ xs) → Rises (low + 1) xs
rest_rises low xs rises once =
    let one : times low (low ∷ xs) ≡ 1 = once low (omega arith) (omega arith) in
    let more : times low (low ∷ xs) ≡ 1 + times low xs = count_same low xs in
    rises_more low xs rises (omega arith)

-- then they are `low`, `low` + 1 and so on
counted_up : (low : ℕ) (xs : List ℕ) → Rises low xs → Once low xs → xs ≡ range_with_len low (length xs)
counted_up low [] rises once = refl
counted_up low (x ∷ xs) rises once =
    let first : x ≡ low = first_is low x xs rises once in
    let so : Once low (low ∷ xs) = subst (λ y. Once low (y ∷ xs)) first once in
    let from : Rises low xs = subst (λ y. Rises y xs) first rises.1 in
    let rest : xs ≡ range_with_len (low + 1) (length xs) = counted_up (low + 1) xs (rest_rises low xs from so) (rest_once low xs so) in
    ap (λ y. y ∷ xs) first ∙ ap (λ ys. low ∷ ys) rest

-- and of those each is there once
none_in_range : (n low len : ℕ) → n < low → times n (range_with_len low len) ≡ 0
none_in_range n low zero below = refl
none_in_range n low (suc len) below = count_other n low (range_with_len (low + 1) len) (λ e. absurd (omega arith)) ∙ none_in_range n (low + 1) len (omega arith)

range_once : (n low len : ℕ) → low ≤ n → n < low + len → times n (range_with_len low len) ≡ 1
range_once n low zero from to = absurd (omega arith)
range_once n low (suc len) from to = elim (cases_lt low n) [
  | inl h ↦ count_other n low (range_with_len (low + 1) len) (λ e. absurd (omega arith)) ∙ range_once n (low + 1) len (omega arith) (omega arith)
  | inr h ↦
      let e : n ≡ low = omega arith in
      subst (λ k. times k (range_with_len low (suc len)) ≡ 1) (sym e) (count_same low (range_with_len (low + 1) len) ∙ ap (λ k. 1 + k) (none_in_range low (low + 1) len (omega arith)))
]

-- ---- numbers that were sorted

-- none is smaller than one before it
abbrev InOrder : List ℕ → Type 0
InOrder xs = (i j : ℕ) → i ≤ j → j < length xs → get_or xs i 0 ≤ get_or xs j 0

rises_from : (low : ℕ) (xs : List ℕ) → (0 < length xs → low ≤ get_or xs 0 0) → InOrder xs → Rises low xs
rises_from low [] first order = tt
rises_from low (x ∷ xs) first order = (first (omega arith), rises_from x xs (λ some. order 0 1 (omega arith) (omega arith)) (λ i j le below. order (suc i) (suc j) (omega arith) (omega arith)))

range_begins : (numbers : List ℕ) → numbers ≡ range_with_len 1 (length numbers) → All (λ n. 1 ≤ n) numbers
range_begins numbers e k d below =
    let at : get_or numbers k d ≡ 1 + k = ap (λ xs. get_or xs k d) e ∙ get_or-range_with_len 1 (length numbers) k d below in
    omega arith

-- the numbers begin at 1 and each up to their count is there once, where they are 1, 2 and so on in order
pub numbering_from : (numbers sorted : List ℕ) → IsPermutation numbers sorted → sorted ≡ range_with_len 1 (length sorted) → IsNumbering numbers
numbering_from numbers sorted same e =
    let size : length sorted ≡ length numbers = length_permutation numbers sorted same in
    record {
      begin = All-permutation (λ n. 1 ≤ n) sorted numbers (IsPermutation-sym numbers sorted same) (range_begins sorted e);
      once = λ n from to.
          sym (sum_by-IsPermutation (λ x. cond (x == n) 1 0) numbers sorted same)
          ∙ ap (times n) e ∙ range_once n 1 (length sorted) from (omega arith);
    }

-- and only there
pub numbering_to : (numbers sorted : List ℕ) → IsPermutation numbers sorted → IsSorted nat_cmp sorted → IsNumbering numbers → sorted ≡ range_with_len 1 (length sorted)
numbering_to numbers sorted same order numbering =
    let size : length sorted ≡ length numbers = length_permutation numbers sorted same in
    let rises = IsNonDecreasingBy-from_sort (λ x. x) sorted order in
    let some = All-permutation (λ n. 1 ≤ n) numbers sorted same numbering.begin in
    counted_up 1 sorted (rises_from 1 sorted (λ h. some 0 0 h) (λ i j le below. rises i j 0 le below))
    (λ n from to. sum_by-IsPermutation (λ x. cond (x == n) 1 0) numbers sorted same ∙ numbering.once n from (omega arith))
