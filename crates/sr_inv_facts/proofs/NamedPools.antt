-- The pool that a number names, as a number gets another one.
use Rattle.std.proofs.Common.{◌≡◌, ℕ, zero, suc, ◌<◌, ◌≤◌, ◌≢◌, ◌⊎◌, List, [], ◌∷◌, length, slice_index, slice_index_or, slice_set, sym, ap, ◌∙◌, subst, inl, inr, arith, length-set, get_or-set_other, get_or-set_same}
use Rattle.std.proofs.lemmas.Bool.{cases_lt, cases_eq}
use Rattle.std.proofs.lemmas.List.{get_or_past}
use Rattle.std.specs.List.{AllByRecursion}
use Rattle.sr_machine.specs.Deciding.{named_at, with_named}

-- two numbers, or two of them, differ
abbrev pub IsElse : ℕ → ℕ → ℕ → ℕ → Type 0
IsElse vip version v n = v ≡ vip → n ≡ version → ⊥

-- the pool that a number names, after another number gets one
pub named_else : (named : List (List ℕ)) (vip version v n pool : ℕ) → IsElse vip version v n
    → named_at (with_named v n pool named) vip version ≡ named_at named vip version
named_else named vip version v n pool other = at (cases_eq v vip)
  where
    row : List ℕ
    row = slice_set (slice_index_or named v []) n pool

    within : (v < length named) ⊎ (length named ≤ v) → v ≡ vip → (n ≡ version → ⊥)
        → slice_index (slice_index_or (slice_set named v row) vip []) version ≡ slice_index (slice_index_or named vip []) version
    within (inl b) same apart =
        subst (λ m. slice_index (slice_index_or (slice_set named v row) m []) version ≡ slice_index (slice_index_or named m []) version) same
        (ap (λ r. slice_index r version) (get_or-set_same named v row [] b)
        ∙ get_or-set_other (slice_index_or named v []) n version pool 0 (λ e. apart (sym e)))
    within (inr b) same apart =
        ap (λ r. slice_index r version)
        (get_or_past (slice_set named v row) vip [] (omega (arith, length-set named v row)) ∙ sym (get_or_past named vip [] (omega arith)))

    at : (v ≡ vip) ⊎ (v ≢ vip) → named_at (with_named v n pool named) vip version ≡ named_at named vip version
    at (inl same) = within (cases_lt v (length named)) same (other same)
    at (inr apart) = ap (λ r. slice_index r version) (get_or-set_other named v vip row [] (λ e. apart (sym e)))

-- and after it gets one itself
pub named_here : (named : List (List ℕ)) (v n pool versions : ℕ) → v < length named → AllByRecursion (λ row. length row ≡ versions) named
    → n < versions → named_at (with_named v n pool named) v n ≡ pool
named_here named v n pool versions b rows m =
    ap (λ r. slice_index r n) (get_or-set_same named v (slice_set (slice_index_or named v []) n pool) [] b)
    ∙ get_or-set_same (slice_index_or named v []) n pool 0 (long named v b rows)
  where
    long : (rows : List (List ℕ)) (v : ℕ) → v < length rows → AllByRecursion (λ row. length row ≡ versions) rows
        → n < length (slice_index_or rows v [])
    long [] v b all = absurd (omega arith)
    long (row ∷ rest) zero b all = omega (arith, all.0)
    long (row ∷ rest) (suc v) b all = long rest v (omega arith) all.1

-- a number is another one, or isn't
pub pair_cases : (vip version v n : ℕ) → ((v ≡ vip) × (n ≡ version)) ⊎ IsElse vip version v n
pair_cases vip version v n = at (cases_eq v vip) (cases_eq n version)
  where
    at : (v ≡ vip) ⊎ (v ≢ vip) → (n ≡ version) ⊎ (n ≢ version) → ((v ≡ vip) × (n ≡ version)) ⊎ IsElse vip version v n
    at (inl a) (inl b) = inl (a, b)
    at (inl a) (inr b) = inr (λ x y. b y)
    at (inr a) b = inr (λ x y. a x)
