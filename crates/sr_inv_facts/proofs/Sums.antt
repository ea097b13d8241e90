-- Sums over a list of which one element changes.
use Rattle.std.proofs.Common.{◌≡◌, ℕ, zero, suc, ◌+◌, ◌*◌, ◌≤◌, List, [], ◌∷◌, length, slice_get, slice_set, Some, sum_by, refl, ap, arith}
use Rattle.std.proofs.lemmas.List.Sums.{sum_by-cons}
use Rattle.std.proofs.lemmas.Option.{same_Some}

module _ {X : Type 0} (f : X → ℕ) where
  -- the sum is more by as much as the element's part
  pub sum_at : (xs : List X) (p : ℕ) (v w : X) → slice_get xs p ≡ Some v → sum_by f (slice_set xs p w) + f v ≡ sum_by f xs + f w
  sum_at [] p v w e = cc
  sum_at (x ∷ xs) zero v w e =
      let i : f x ≡ f v = ap f (same_Some x v e) in omega (arith, sum_by-cons f w xs, sum_by-cons f x xs)
  sum_at (x ∷ xs) (suc p) v w e =
      omega (arith, sum_at xs p v w e, sum_by-cons f x (slice_set xs p w), sum_by-cons f x xs)

  -- each part is at most so much
  pub sum_most : (most : ℕ) (xs : List X) → ((p : ℕ) (v : X) → slice_get xs p ≡ Some v → f v ≤ most) → sum_by f xs ≤ length xs * most
  sum_most most [] h = omega arith
  sum_most most (x ∷ xs) h =
      let first : f x ≤ most = h 0 x refl in
      omega (arith, sum_by-cons f x xs, sum_most most xs (λ p v e. h (suc p) v e))

  -- a part is at most the sum
  pub sum_least : (xs : List X) (p : ℕ) (v : X) → slice_get xs p ≡ Some v → f v ≤ sum_by f xs
  sum_least [] p v e = cc
  sum_least (x ∷ xs) zero v e = let i : f x ≡ f v = ap f (same_Some x v e) in omega (arith, sum_by-cons f x xs)
  sum_least (x ∷ xs) (suc p) v e = omega (arith, sum_by-cons f x xs, sum_least xs p v e)
