-- Lists of marks, and what is asked of them.
use Rattle.std.specs.Prelude.{ℕ, zero, suc, Bool, true, false, List, [], ◌∷◌, take, Option, Some, None, option_map}

-- a list of marks, and how many more can be pushed before memory is taken
pub record MarksView : Type 0 where
  pub marks : List Bool
  pub room : ℕ

-- how many are set
unfoldable pub count_set : List Bool → ℕ
count_set [] = 0
count_set (true ∷ rest) = suc (count_set rest)
count_set (false ∷ rest) = count_set rest

-- how many are set before a position
abbrev pub rank_of : ℕ → List Bool → ℕ
rank_of at marks = count_set (take at marks)

-- the position of the n-th set mark, from 0
unfoldable pub nth_set : ℕ → List Bool → Option ℕ
nth_set n [] = None
nth_set n (false ∷ rest) = option_map (λ at. suc at) (nth_set n rest)
nth_set zero (true ∷ rest) = Some 0
nth_set (suc n) (true ∷ rest) = option_map (λ at. suc at) (nth_set n rest)

-- the first position of a set mark, this one or a later one
unfoldable pub next_set : ℕ → List Bool → Option ℕ
next_set from [] = None
next_set (suc from) (mark ∷ rest) = option_map (λ at. suc at) (next_set from rest)
next_set zero (true ∷ rest) = Some 0
next_set zero (false ∷ rest) = option_map (λ at. suc at) (next_set zero rest)
