-- What is known of a source, and what a read does to the bytes that are left.
use Rattle.std.specs.Prelude.{◌≡◌, ℕ, ◌≤◌, List, [], length, take, drop, Option, Some}
use Rattle.sr_io.specs.declared.source.Got.{Got}
use Rattle.sr_io.specs.declared.source.Got.TheVariants.{Bytes, End, Failed}

-- the bytes that are left, where the source tells them, and how often it failed; the count stands still at the end of 64 bits
pub record SourceKnown : Type 0 where
  pub left : Option (List ℕ)
  pub faults : ℕ

-- as many bytes as a buffer of this size can take, and at least one
abbrev pub IsWithin : Got → ℕ → Type 0
IsWithin (Bytes n) size = (1 ≤ n) × (n ≤ size)
IsWithin End size = Unit {0}
IsWithin Failed size = Unit {0}

-- The first bytes of those left are at the front of the buffer, and the others are left; or no byte was left; or all are left.
abbrev pub Takes : Got → List ℕ → List ℕ → Option (List ℕ) → Type 0
Takes (Bytes n) xs buffer left = (n ≤ length xs) × (take n buffer ≡ take n xs) × (left ≡ Some (drop n xs))
Takes End xs buffer left = (xs ≡ []) × (left ≡ Some [])
Takes Failed xs buffer left = left ≡ Some xs
