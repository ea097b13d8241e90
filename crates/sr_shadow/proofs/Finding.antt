-- What a search in a list finds.
use Rattle.std.proofs.Common.{◌≡◌, Bool, true, false, cond, List, [], ◌∷◌, find, None, Some, refl, sym, ◌∙◌, subst, true≢false}
use Rattle.std.specs.List.{list_all}
use Rattle.std.proofs.lemmas.Bool.{and_parts}

pub some_is : {X : Type 0} (a b : X) → Some a ≡ Some b → a ≡ b
some_is a b e = cc e

-- what is found passes
pub found_passes : {X : Type 0} (p : X → Bool) (xs : List X) (x : X) → find p xs ≡ Some x → p x ≡ true
found_passes p [] x h = absurd cc
found_passes p (y ∷ ys) x h = by (p y) refl (found_passes p ys x) h
  where
    by : (b : Bool) → p y ≡ b → (find p ys ≡ Some x → p x ≡ true) → cond b (Some y) (find p ys) ≡ Some x → p x ≡ true
    by true t more h = subst (λ z. p z ≡ true) (some_is y x h) t
    by false t more h = more h

-- and passes what all in the list pass
pub found_all : {X : Type 0} (p q : X → Bool) (xs : List X) (x : X) → list_all q xs ≡ true → find p xs ≡ Some x → q x ≡ true
found_all p q [] x all h = absurd cc
found_all p q (y ∷ ys) x all h = let parts = and_parts (q y) (list_all q ys) all in by (p y) parts.0 (found_all p q ys x parts.1) h
  where
    by : (b : Bool) → q y ≡ true → (find p ys ≡ Some x → q x ≡ true) → cond b (Some y) (find p ys) ≡ Some x → q x ≡ true
    by true here more h = subst (λ z. q z ≡ true) (some_is y x h) here
    by false here more h = more h

-- what is found and passes another test is found by that
pub found_none : {X : Type 0} (p q : X → Bool) (xs : List X) (x : X) → find q xs ≡ Some x → p x ≡ true → find p xs ≡ None → ⊥
found_none p q [] x h t none = absurd cc
found_none p q (y ∷ ys) x h t none = by (q y) (p y) refl (λ f. found_none p q ys x f t) h none
  where
    by : (b d : Bool) → p y ≡ d → (find q ys ≡ Some x → find p ys ≡ None → ⊥) → cond b (Some y) (find q ys) ≡ Some x → cond d (Some y) (find p ys) ≡ None → ⊥
    by b true s more h none = absurd cc
    by true false s more h none = true≢false (sym (subst (λ z. p z ≡ true) (sym (some_is y x h)) t) ∙ s)
    by false false s more h none = more h none

-- a test that fewer pass finds nothing where the other does
pub find_fewer : {X : Type 0} (p q : X → Bool) (xs : List X) → ((x : X) → q x ≡ true → p x ≡ true) → find p xs ≡ None → find q xs ≡ None
find_fewer p q [] le h = refl
find_fewer p q (x ∷ xs) le h = by (p x) (q x) refl refl (find_fewer p q xs le) h
  where
    by : (a b : Bool) → p x ≡ a → q x ≡ b → (find p xs ≡ None → find q xs ≡ None) → cond a (Some x) (find p xs) ≡ None → cond b (Some x) (find q xs) ≡ None
    by true b s t more h = absurd cc
    by false true s t more h = absurd (true≢false (sym (le x t) ∙ s))
    by false false s t more h = more h
