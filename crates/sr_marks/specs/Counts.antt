-- Lists of counts, and the sums of groups of 64 over them, level by level.
use Rattle.std.specs.Prelude.{ℕ, zero, suc, ◌≡◌, ◌+◌, ◌*◌, ◌/◌, ◌<◌, ◌≤◌, Bool, true, false, List, [], ◌∷◌, length, take, drop, get_or}

-- the sum of all counts
abbrev pub total : List ℕ → ℕ
total [] = 0
total (x ∷ xs) = x + total xs

-- the sum of those before a position
abbrev pub total_before : ℕ → List ℕ → ℕ
total_before at xs = total (take at xs)

-- the counts of a group of 64
abbrev pub group_of : ℕ → List ℕ → List ℕ
group_of group xs = take 64 (drop (64 * group) xs)

-- the sums of so many groups of 64
unfoldable pub sums_of : ℕ → List ℕ → List ℕ
sums_of zero xs = []
sums_of (suc n) xs = total (take 64 xs) ∷ sums_of n (drop 64 xs)

-- the sums of all groups of 64; the last may be a shorter one
abbrev pub groups : List ℕ → List ℕ
groups xs = sums_of ((length xs + 63) / 64) xs

-- the sums of groups, taken so many times
unfoldable pub level_of : ℕ → List ℕ → List ℕ
level_of zero xs = xs
level_of (suc i) xs = groups (level_of i xs)

-- the lowest of some levels
abbrev pub lowest : List (List ℕ) → List ℕ
lowest levels = get_or levels 0 []

-- Levels of a list of counts: the list itself, then the sums of groups of each level below, until one sum is left.
pub record AreLevels (levels : List (List ℕ)) (xs : List ℕ) : Type 0 where
  pub each : (i : ℕ) → i < length levels → get_or levels i [] ≡ level_of i xs
  pub one : length (level_of (length levels) xs) ≤ 1

-- a mark as a count
abbrev pub weight : Bool → ℕ
weight true = 1
weight false = 0
