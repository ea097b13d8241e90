-- The numbers of the records that a log tells of.
use Rattle.std.specs.Prelude.{◌≡◌, ℕ, ◌≤◌, ◌==◌, List, ◌++◌, length, map, All}
use Rattle.std.specs.List.{count_by}
use Rattle.sr_base.specs.declared.packet.Packet.{Packet}
use Rattle.sr_frame.specs.declared.skip.Skip.{Skip}

-- the numbers of the skipped records, and of the packets
abbrev pub numbers_of : List (ℕ × Skip) → List Packet → List ℕ
numbers_of skips packets = map (λ s. s.0) skips ++ map (λ p. p.number) packets

-- how often a number stands there
abbrev pub times : ℕ → List ℕ → ℕ
times n numbers = count_by (λ x. x == n) numbers

-- they begin at 1, and of each number from 1 to as many as they are there is one
pub record IsNumbering (numbers : List ℕ) : Type 0 where
  pub begin : All (λ n. 1 ≤ n) numbers
  pub once : (n : ℕ) → 1 ≤ n → n ≤ length numbers → times n numbers ≡ 1
