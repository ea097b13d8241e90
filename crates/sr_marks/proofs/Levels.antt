-- The levels over a list of counts.
use Rattle.std.proofs.Common.{◌≡◌, ℕ, zero, suc, ◌+◌, ◌≤◌, List, [], length, refl, ◌∙◌, arith, add-one}
use Rattle.sr_marks.specs.Counts.{total, groups, level_of, AreLevels}
use Rattle.sr_marks.proofs.Grouping.{total-groups, length-groups}

pub level_more : (i : ℕ) (xs : List ℕ) → level_of (i + 1) xs ≡ groups (level_of i xs)
unfolding level_of
level_more i xs = rw add-one refl

pub level_zero : (xs : List ℕ) → level_of 0 xs ≡ xs
unfolding level_of
level_zero xs = refl

-- each level has the same sum
pub total-level : (i : ℕ) (xs : List ℕ) → total (level_of i xs) ≡ total xs
unfolding level_of
total-level zero xs = refl
total-level (suc i) xs = total-groups (level_of i xs) ∙ total-level i xs

-- and is no longer than the list
pub length-level : (i : ℕ) (xs : List ℕ) → length (level_of i xs) ≤ length xs
unfolding level_of
length-level zero xs = omega arith
length-level (suc i) xs = let e = length-level i xs in let n = length-groups (level_of i xs) in omega arith

-- no levels, of an empty list
pub no_levels : AreLevels [] []
unfolding level_of
no_levels = record { each = λ i below. absurd (omega arith); one = omega arith }
