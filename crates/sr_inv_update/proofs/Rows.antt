-- The state and the pool of a version after a write.
use Rattle.std.proofs.Common.{◌≡◌, ℕ, zero, suc, ◌<◌, Bool, true, false, ◌≢◌, List, [], ◌∷◌, length, ◌==◌, slice_get, slice_index, slice_index_or, slice_set, Some, Option, sym, refl, ap, ◌∙◌, subst, arith, get_or-set_other, get_or-set_same}
use Rattle.std.proofs.lemmas.Bool.Decides.{nat_tests}
use Rattle.std.specs.List.{AllByRecursion}
use Rattle.sr_machine.specs.Deciding.{named_at, with_named}
use Rattle.sr_update.proofs.Rows.{get_set_same, get_set_other}
use Rattle.sr_update.specs.Numbers.{NumberRows, row_of, state_of, with_state}
use Rattle.sr_update.specs.declared.number_state.NumberState.{NumberState}

module _ {X : Type 0} where
  rows_here : (rows : List (List X)) (a : ℕ) (row : List X) → a < length rows → slice_index_or (slice_set rows a row) a [] ≡ row
  rows_here rows a row h = get_or-set_same rows a row [] h

  rows_else : (rows : List (List X)) (a v : ℕ) (row : List X) → v ≢ a → slice_index_or (slice_set rows a row) v [] ≡ slice_index_or rows v []
  rows_else rows a v row h = get_or-set_other rows a v row [] h

module _ (rows : NumberRows) (a b : ℕ) (is : NumberState) (inside : a < length rows) where
  -- a state that was written is found
  pub state_here : b < length (row_of a rows) → state_of a b (with_state a b is rows) ≡ Some is
  state_here h =
      ap (λ row. slice_get row b) (rows_here rows a (slice_set (row_of a rows) b is) inside) ∙ get_set_same (row_of a rows) b is h

  -- and the others are as they were
  pub state_same : (n : ℕ) → n ≢ b → state_of a n (with_state a b is rows) ≡ state_of a n rows
  state_same n h =
      ap (λ row. slice_get row n) (rows_here rows a (slice_set (row_of a rows) b is) inside) ∙ get_set_other (row_of a rows) b n is h

  pub state_else : (v n : ℕ) → v ≢ a → state_of v n (with_state a b is rows) ≡ state_of v n rows
  state_else v n h = ap (λ row. slice_get row n) (rows_else rows a v (slice_set (row_of a rows) b is) h)

  -- a version is the one that was written, or its state is as it was
  pub state_cases : (P : Option NumberState → Type 0) (v n : ℕ) → b < length (row_of a rows)
      → (v ≡ a → n ≡ b → P (Some is)) → (((v ≡ a) → (n ≡ b) → ⊥) → P (state_of v n rows))
      → P (state_of v n (with_state a b is rows))
  state_cases P v n h same other = at (v == a) (n == b) refl refl
    where
      at : (x y : Bool) → (v == a) ≡ x → (n == b) ≡ y → P (state_of v n (with_state a b is rows))
      at true true p q =
          let e : v ≡ a = grind (arith, nat_tests) in
          let f : n ≡ b = grind (arith, nat_tests) in
          subst P (sym (ap (λ z. state_of z n (with_state a b is rows)) e ∙ (ap (λ z. state_of a z (with_state a b is rows)) f ∙ state_here h))) (same e f)
      at true false p q =
          let e : v ≡ a = grind (arith, nat_tests) in
          let f : n ≢ b = grind (arith, nat_tests) in
          subst P (sym (ap (λ z. state_of z n (with_state a b is rows)) e ∙ (state_same n f ∙ ap (λ z. state_of z n rows) (sym e)))) (other (λ c d. f d))
      at false y p q =
          let e : v ≢ a = grind (arith, nat_tests) in
          subst P (sym (state_else v n e)) (other (λ c d. e c))

module _ (named : List (List ℕ)) (a b pool : ℕ) (inside : a < length named) where
  pub named_here : b < length (slice_index_or named a []) → named_at (with_named a b pool named) a b ≡ pool
  named_here h =
      ap (λ row. slice_index row b) (rows_here named a (slice_set (slice_index_or named a []) b pool) inside) ∙ get_or-set_same (slice_index_or named a []) b pool 0 h

  pub named_cases : (P : ℕ → Type 0) (v n : ℕ) → b < length (slice_index_or named a [])
      → (v ≡ a → n ≡ b → P pool) → (((v ≡ a) → (n ≡ b) → ⊥) → P (named_at named v n))
      → P (named_at (with_named a b pool named) v n)
  named_cases P v n h same other = at (v == a) (n == b) refl refl
    where
      at : (x y : Bool) → (v == a) ≡ x → (n == b) ≡ y → P (named_at (with_named a b pool named) v n)
      at true true p q =
          let e : v ≡ a = grind (arith, nat_tests) in
          let f : n ≡ b = grind (arith, nat_tests) in
          subst P (sym (ap (λ z. named_at (with_named a b pool named) z n) e ∙ (ap (λ z. named_at (with_named a b pool named) a z) f ∙ named_here h))) (same e f)
      at true false p q =
          let e : v ≡ a = grind (arith, nat_tests) in
          let f : n ≢ b = grind (arith, nat_tests) in
          subst P (sym (ap (λ z. named_at (with_named a b pool named) z n) e ∙ (ap (λ row. slice_index row n) (rows_here named a (slice_set (slice_index_or named a []) b pool) inside) ∙ (get_or-set_other (slice_index_or named a []) b n pool 0 f ∙ ap (λ z. named_at named z n) (sym e)))))
          (other (λ c d. f d))
      at false y p q =
          let e : v ≢ a = grind (arith, nat_tests) in
          subst P (sym (ap (λ row. slice_index row n) (rows_else named a v (slice_set (slice_index_or named a []) b pool) e))) (other (λ c d. e c))

-- a row of a virtual address of the layout has a number for each version
pub full_row : {X : Type 0} (n : ℕ) (rows : List (List X)) (v : ℕ) → AllByRecursion (λ row. length row ≡ n) rows → v < length rows
    → length (slice_index_or rows v []) ≡ n
full_row n [] v a h = absurd (omega arith)
full_row n (row ∷ rows) zero a h = a.0
full_row n (row ∷ rows) (suc v) a h = full_row n rows v a.1 (omega arith)

-- a version with a state is of a virtual address of the layout
pub state_inside : (rows : NumberRows) (v n : ℕ) (is : NumberState) → state_of v n rows ≡ Some is → v < length rows
state_inside [] v n is e = cc
state_inside (row ∷ rows) zero n is e = omega arith
state_inside (row ∷ rows) (suc v) n is e = let h = state_inside rows v n is e in omega (arith, h)
