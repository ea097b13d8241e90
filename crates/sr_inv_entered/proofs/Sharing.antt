-- The shares of the pipes are a partition: what is counted in them is what is counted in the packets.
use Rattle.std.proofs.Common.{◌≡◌, ℕ, zero, suc, ◌+◌, ◌<◌, ◌≤◌, ◌≢◌, ◌==◌, Bool, true, false, cond, List, [], ◌∷◌, map, filter, sum_by, refl, sym, ap, ◌∙◌, arith}
use Rattle.std.proofs.lemmas.Bool.Decides.{nat_tests}
use Rattle.std.proofs.lemmas.List.Sums.{sum_by-cons}
use Rattle.std.specs.List.{range_with_len}

-- A count of a list of which each element adds its own part.
module _ {X : Type 0} (count : List X → ℕ) (part : X → ℕ) (none : count [] ≡ 0) (more : (x : X) (xs : List X) → count (x ∷ xs) ≡ part x + count xs)
    (of : X → ℕ) where
  -- the elements of each of so many numbers
  abbrev shared : ℕ → ℕ → List X → List (List X)
  shared low n xs = map (λ i. filter (λ x. of x == i) xs) (range_with_len low n)

  no_shares : (low n : ℕ) → sum_by count (shared low n []) ≡ 0
  no_shares low zero = refl
  no_shares low (suc n) = omega (arith, none, no_shares (low + 1) n, sum_by-cons count [] (shared (low + 1) n []))

  own_share : (x : X) (xs : List X) (i : ℕ) → of x ≡ i → count (filter (λ y. of y == i) (x ∷ xs)) ≡ part x + count (filter (λ y. of y == i) xs)
  own_share x xs i e =
      let yes : (of x == i) ≡ true = grind (arith, nat_tests) in
      ap (λ b. count (cond b (x ∷ filter (λ y. of y == i) xs) (filter (λ y. of y == i) xs))) yes ∙ more x (filter (λ y. of y == i) xs)

  other_share : (x : X) (xs : List X) (i : ℕ) → of x ≢ i → count (filter (λ y. of y == i) (x ∷ xs)) ≡ count (filter (λ y. of y == i) xs)
  other_share x xs i e =
      let no : (of x == i) ≡ false = grind (arith, nat_tests) in
      ap (λ b. count (cond b (x ∷ filter (λ y. of y == i) xs) (filter (λ y. of y == i) xs))) no

  -- an element of a lower number is in none of the shares
  shares_past : (x : X) (xs : List X) (low n : ℕ) → of x < low → sum_by count (shared low n (x ∷ xs)) ≡ sum_by count (shared low n xs)
  shares_past x xs low zero h = refl
  shares_past x xs low (suc n) h =
      let other : of x ≢ low = λ e. absurd (omega (arith, h, e)) in
      let first = other_share x xs low other in
      let rest = shares_past x xs (low + 1) n (omega (arith, h)) in
      let sums = sum_by-cons count (filter (λ y. of y == low) (x ∷ xs)) (shared (low + 1) n (x ∷ xs)) in
      let parts = sum_by-cons count (filter (λ y. of y == low) xs) (shared (low + 1) n xs) in
      omega (arith, first, rest, sums, parts)

  -- and one of a number among these is in one
  shares_here : (x : X) (xs : List X) (low n : ℕ) → low ≤ of x → of x < low + n
      → sum_by count (shared low n (x ∷ xs)) ≡ part x + sum_by count (shared low n xs)
  shares_here x xs low zero a b = absurd (omega (arith, a, b))
  shares_here x xs low (suc n) a b = at (of x == low) refl (shares_here x xs (low + 1) n)
    where
      sums : sum_by count (shared low (suc n) (x ∷ xs)) ≡ count (filter (λ y. of y == low) (x ∷ xs)) + sum_by count (shared (low + 1) n (x ∷ xs))
      sums = sum_by-cons count (filter (λ y. of y == low) (x ∷ xs)) (shared (low + 1) n (x ∷ xs))

      parts : sum_by count (shared low (suc n) xs) ≡ count (filter (λ y. of y == low) xs) + sum_by count (shared (low + 1) n xs)
      parts = sum_by-cons count (filter (λ y. of y == low) xs) (shared (low + 1) n xs)

      at : (t : Bool) → (of x == low) ≡ t
          → (low + 1 ≤ of x → of x < low + 1 + n → sum_by count (shared (low + 1) n (x ∷ xs)) ≡ part x + sum_by count (shared (low + 1) n xs))
          → sum_by count (shared low (suc n) (x ∷ xs)) ≡ part x + sum_by count (shared low (suc n) xs)
      at true e later =
          let here : of x ≡ low = grind (arith, nat_tests) in
          omega (arith, sums, parts, own_share x xs low here, shares_past x xs (low + 1) n (omega (arith, here)))
      at false e later =
          let other : of x ≢ low = grind (arith, nat_tests) in
          let on : low + 1 ≤ of x = grind (arith, nat_tests) in
          omega (arith, sums, parts, other_share x xs low other, later on (omega (arith, b)))

  pub shares_count : (n : ℕ) (xs : List X) → ((x : X) → of x < n) → sum_by count (shared 0 n xs) ≡ count xs
  shares_count n [] within = no_shares 0 n ∙ sym none
  shares_count n (x ∷ xs) within =
      shares_here x xs 0 n (omega arith) (omega (arith, within x)) ∙ (ap (λ m. part x + m) (shares_count n xs within) ∙ sym (more x xs))
