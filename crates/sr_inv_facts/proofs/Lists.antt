-- What holds of each element of a list, as the list changes.
use Rattle.std.proofs.Common.{◌≡◌, ℕ, zero, suc, ◌+◌, Bool, true, false, cond, List, [], ◌∷◌, ◌++◌, map, length, drop, replicate, IfSome, slice_get, slice_index_or, slice_set, Some, filter, Option, sym, refl, ap, ◌∙◌, subst, inl, inr, append_assoc, arith, length-set}
use Rattle.std.proofs.lemmas.Bool.{and_parts}
use Rattle.std.proofs.lemmas.Option.{same_Some}
use Rattle.std.specs.List.{AllByRecursion, list_all, range_with_len}
use Rattle.sr_inv_facts.specs.Readings.{In, IsEnd}

module _ {X : Type 0} where
  pub all_more : (P : X → Type 0) (xs ys : List X) → AllByRecursion P xs → AllByRecursion P ys → AllByRecursion P (xs ++ ys)
  all_more P [] ys a b = b
  all_more P (x ∷ xs) ys a b = (a.0, all_more P xs ys a.1 b)

  pub all_front : (P : X → Type 0) (xs ys : List X) → AllByRecursion P (xs ++ ys) → AllByRecursion P xs
  all_front P [] ys a = tt
  all_front P (x ∷ xs) ys a = (a.0, all_front P xs ys a.1)

  pub all_back : (P : X → Type 0) (xs ys : List X) → AllByRecursion P (xs ++ ys) → AllByRecursion P ys
  all_back P [] ys a = a
  all_back P (x ∷ xs) ys a = all_back P xs ys a.1

  pub all_then : (P Q : X → Type 0) → ((x : X) → P x → Q x) → (xs : List X) → AllByRecursion P xs → AllByRecursion Q xs
  all_then P Q h [] a = tt
  all_then P Q h (x ∷ xs) a = (h x a.0, all_then P Q h xs a.1)

  -- of each of two lists of facts
  pub all_both : (P Q R : X → Type 0) → ((x : X) → P x → Q x → R x) → (xs : List X) → AllByRecursion P xs → AllByRecursion Q xs
      → AllByRecursion R xs
  all_both P Q R h [] a b = tt
  all_both P Q R h (x ∷ xs) a b = (h x a.0 b.0, all_both P Q R h xs a.1 b.1)

  -- of each element whatever it is
  pub all_of : (P : X → Type 0) → ((x : X) → P x) → (xs : List X) → AllByRecursion P xs
  all_of P h [] = tt
  all_of P h (x ∷ xs) = (h x, all_of P h xs)

  pub all_mapped : (P Q : X → Type 0) (f : X → X) → ((x : X) → P x → Q (f x)) → (xs : List X) → AllByRecursion P xs
      → AllByRecursion Q (map f xs)
  all_mapped P Q f h [] a = tt
  all_mapped P Q f h (x ∷ xs) a = (h x a.0, all_mapped P Q f h xs a.1)

  pub all_filtered : (P : X → Type 0) (test : X → Bool) (xs : List X) → AllByRecursion P xs → AllByRecursion P (filter test xs)
  all_filtered P test [] a = tt
  all_filtered P test (x ∷ xs) a = at (test x) (all_filtered P test xs a.1)
    where
      at : (b : Bool) → AllByRecursion P (filter test xs) → AllByRecursion P (cond b (x ∷ filter test xs) (filter test xs))
      at true rest = (a.0, rest)
      at false rest = rest

  pub all_got : (P : X → Type 0) (xs : List X) (i : ℕ) (x : X) → AllByRecursion P xs → slice_get xs i ≡ Some x → P x
  all_got P [] i x a e = cc
  all_got P (y ∷ xs) zero x a e = subst P (same_Some y x e) a.0
  all_got P (y ∷ xs) (suc i) x a e = all_got P xs i x a.1 e

  pub all_set : (P : X → Type 0) (xs : List X) (i : ℕ) (x : X) → AllByRecursion P xs → P x → AllByRecursion P (slice_set xs i x)
  all_set P [] i x a p = tt
  all_set P (y ∷ xs) zero x a p = (p, a.1)
  all_set P (y ∷ xs) (suc i) x a p = (a.0, all_set P xs i x a.1 p)

  -- an end of a list without its first
  pub end_rest : (x : X) (xs whole : List X) → IsEnd (x ∷ xs) whole → IsEnd xs whole
  end_rest x xs whole e = (e.0 ++ x ∷ [], e.1 ∙ sym (append_assoc e.0 (x ∷ []) xs))

  pub end_whole : (xs : List X) → IsEnd xs xs
  end_whole xs = ([], refl)

  -- what is in an end is in the list
  pub in_more : (x : X) (front xs : List X) → In x xs → In x (front ++ xs)
  in_more x [] xs i = i
  in_more x (y ∷ front) xs i = inr (in_more x front xs i)

  pub in_end : (x : X) (xs whole : List X) → IsEnd xs whole → In x xs → In x whole
  in_end x xs whole e i = subst (In x) (sym e.1) (in_more x e.0 xs i)

  pub all_in : (P : X → Type 0) (xs : List X) (x : X) → AllByRecursion P xs → In x xs → P x
  all_in P [] x a i = absurd i
  all_in P (y ∷ xs) x a (inl e) = subst P (sym e) a.0
  all_in P (y ∷ xs) x a (inr i) = all_in P xs x a.1 i

  pub all_to_in : (P : X → Type 0) (xs : List X) → ((x : X) → In x xs → P x) → AllByRecursion P xs
  all_to_in P [] h = tt
  all_to_in P (x ∷ xs) h = (h x (inl refl), all_to_in P xs (λ y i. h y (inr i)))

  pub in_test : (test : X → Bool) (xs : List X) (x : X) → list_all test xs ≡ true → In x xs → test x ≡ true
  in_test test [] x a i = absurd i
  in_test test (y ∷ xs) x a (inl e) = ap test e ∙ (and_parts (test y) (list_all test xs) a).0
  in_test test (y ∷ xs) x a (inr i) = in_test test xs x (and_parts (test y) (list_all test xs) a).1 i

  -- the length after a write
  pub length_set : (xs : List X) (i : ℕ) (x : X) → length (slice_set xs i x) ≡ length xs
  length_set xs i x = length-set xs i x

-- what holds of each element of a list that was made from another
pub all_images : {X Y : Type 0} (P : Y → Type 0) (f : X → Y) (xs : List X) → AllByRecursion (λ x. P (f x)) xs → AllByRecursion P (map f xs)
all_images P f [] a = tt
all_images P f (x ∷ xs) a = (a.0, all_images P f xs a.1)

-- what holds of each element and of the default holds of the one at an index
pub got_or : {X : Type 0} (P : X → Type 0) (xs : List X) (n : ℕ) (d : X) → AllByRecursion P xs → P d → P (slice_index_or xs n d)
got_or P [] n d a p = p
got_or P (x ∷ xs) zero d a p = a.0
got_or P (x ∷ xs) (suc n) d a p = got_or P xs n d a.1 p

pub dropped : {X : Type 0} (P : X → Type 0) (xs : List X) → AllByRecursion P xs → AllByRecursion P (drop 1 xs)
dropped P [] a = tt
dropped P (x ∷ xs) a = a.1

-- what is said of an option is said of what it has
pub of_some : {X : Type 0} (P : X → Type 0) (o : Option X) (x : X) → IfSome o P → o ≡ Some x → P x
of_some P o x h e = subst (λ r. IfSome r P) e h

-- a list made over a range has at each index what is made of it
pub ranged_at : {Y : Type 0} (f : ℕ → Y) (a n p : ℕ) (v : Y) → slice_get (map f (range_with_len a n)) p ≡ Some v → v ≡ f (a + p)
ranged_at f a zero p v e = cc
ranged_at f a (suc n) zero v e = sym (same_Some (f a) v e) ∙ ap f (omega arith)
ranged_at f a (suc n) (suc p) v e = ranged_at f (a + 1) n p v e ∙ ap f (omega arith)

-- each of the same
pub all_same : {X : Type 0} (P : X → Type 0) (n : ℕ) (x : X) → P x → AllByRecursion P (replicate n x)
all_same P zero x h = tt
all_same P (suc n) x h = (h, all_same P n x h)
