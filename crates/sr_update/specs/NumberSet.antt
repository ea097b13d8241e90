-- A set of numbers below 64, as the bits of a word.
use Rattle.std.specs.Prelude.{◌≡◌, ◌≢◌, ℕ, ◌<◌, ◌≤◌, Bool, cond}
use Rattle.std.specs.Int.{bit_at}

-- no number from `low` up to `high` is in the set
abbrev pub NoneIn : ℕ → ℕ → ℕ → Type 0
NoneIn word low high = (n : ℕ) → low ≤ n → n < high → bit_at word n ≡ 0

-- the first number of the set from `low` on
pub record IsNextIn (word low n : ℕ) : Type 0 where
  pub from : low ≤ n
  pub within : n < 64
  pub is_in : bit_at word n ≡ 1
  pub first : NoneIn word low n

-- a number is in the set or isn't, and the others are as they were
pub record IsWith (old n : ℕ) (on : Bool) (new : ℕ) : Type 0 where
  pub one : bit_at new n ≡ cond on 1 0
  pub others : (m : ℕ) → m < 64 → m ≢ n → bit_at new m ≡ bit_at old m
