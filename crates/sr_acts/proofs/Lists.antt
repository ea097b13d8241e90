-- Lists that are walked or changed in place.
use Rattle.std.proofs.Common.{◌≡◌, ℕ, suc, ◌+◌, ◌-◌, ◌≤◌, Bool, true, false, cond, List, [], ◌∷◌, map, drop, take, replicate, sym, ap, ◌∙◌, subst, arith}
use Rattle.std.specs.List.{AllByRecursion, filter, find}
use Rattle.std.proofs.lemmas.List.{drop-drop, take-replicate}
use Rattle.std.specs.Prelude.{IfSome, slice_get, slice_set, Option, Some, None}

pub all_map : {X Y : Type 0} (P : X → Type 0) (Q : Y → Type 0) (f : X → Y) → ((x : X) → P x → Q (f x)) → (xs : List X) → AllByRecursion P xs
    → AllByRecursion Q (map f xs)
all_map P Q f h [] all = tt
all_map P Q f h (x ∷ xs) all = (h x all.0, all_map P Q f h xs all.1)

pub all_filter : {X : Type 0} (P : X → Type 0) (test : X → Bool) (xs : List X) → AllByRecursion P xs → AllByRecursion P (filter test xs)
all_filter P test [] all = tt
all_filter P test (x ∷ xs) all = by (test x) (all_filter P test xs all.1)
  where
    by : (b : Bool) → AllByRecursion P (filter test xs) → AllByRecursion P (cond b (x ∷ filter test xs) (filter test xs))
    by true rest = (all.0, rest)
    by false rest = rest

-- what is dropped first, and then one more
pub drop_next : {X : Type 0} (n : ℕ) (xs ys : List X) → drop n xs ≡ ys → drop (n + 1) xs ≡ drop 1 ys
drop_next n xs ys e = sym (drop-drop 1 n xs) ∙ ap (drop 1) e

-- a row of zeros, with another number first
pub first_replicated : (pools : List ℕ) (n : ℕ) → pools ≡ replicate 64 0 → 1 ≤ n → n ≤ 64
    → slice_set (take n pools) 0 1 ≡ 1 ∷ replicate (n - 1) 0
first_replicated pools n e some most =
    ap (λ (xs : List ℕ). slice_set (take n xs) 0 1) e ∙ ap (λ (xs : List ℕ). slice_set xs 0 1) (take-replicate n 64 0 most) ∙ by n (n - 1) (omega arith)
  where
    by : (n m : ℕ) → n ≡ suc m → slice_set (replicate {A = ℕ} n 0) 0 1 ≡ 1 ∷ replicate m 0
    by n m e = ap (λ k. slice_set (replicate {A = ℕ} k 0) 0 1) e

-- the first one, and those after it
pub first_of : {X : Type 0} (xs : List X) (x : X) → slice_get xs 0 ≡ Some x → xs ≡ x ∷ drop 1 xs
first_of [] x e = absurd (cc)
first_of (y ∷ xs) x e = let same : y ≡ x = cc in ap (λ z. z ∷ xs) same

-- what holds of all holds of the one that is found
pub all_find : {X : Type 0} (P : X → Type 0) (test : X → Bool) (xs : List X) (x : X) → AllByRecursion P xs → find test xs ≡ Some x → P x
all_find P test [] x all e = absurd (cc)
all_find P test (y ∷ xs) x all e = by (test y) e (all_find P test xs x all.1)
  where
    by : (b : Bool) → cond b (Some y) (find test xs) ≡ Some x → (find test xs ≡ Some x → P x) → P x
    by true e rest = let same : y ≡ x = cc in subst P same all.0
    by false e rest = rest e

pub if_some : {X : Type 0} (P : X → Type 0) (o : Option X) (x : X) → IfSome o P → o ≡ Some x → P x
if_some P None x h e = absurd (cc)
if_some P (Some y) x h e = let same : y ≡ x = cc in subst P same h
