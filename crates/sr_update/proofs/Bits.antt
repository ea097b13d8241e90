-- Sets of numbers as the bits of a word.
use Rattle.std.proofs.Common.{◌≡◌, ℕ, ◌-◌, ◌*◌, ◌/◌, ◌%◌, ◌^◌, ◌<◌, ◌≤◌, true, false, ap, ◌∙◌, sym, arith}
use Rattle.std.specs.Int.{bit_at, trailing_zeros}
use Rattle.std.specs.Int.RustNames.{bit_or}
use lib.Bits.{bit_and}
use mir.Syntax.{w64}
use Rattle.std.proofs.lemmas.Nat.Bits.{bit_at-lt, bit_at-zero, bit_at_and, bit_at_ones, bit_at_ones_above, ones_shr, ones_shl, bit_at_mask_inside, bit_at_mask_below, bit_at-trailing_zeros, bit_at_set_same, bit_at_set_other, bit_at_clear_same, bit_at_clear_other}
use Rattle.std.proofs.lemmas.Nat.{and_le_l}
use Rattle.sr_update.specs.NumberSet.{NoneIn, IsNextIn, IsWith}

-- the bits of `MAX >> (64 - count)`
pub below_within : (count n : ℕ) → count ≤ 64 → n < count → bit_at ((2 ^ 64 - 1) / 2 ^ (64 - count)) n ≡ 1
below_within count n most h = ap (λ m. bit_at m n) (ones_shr 64 (64 - count) (omega arith)) ∙ bit_at_ones (64 - (64 - count)) n (omega arith)

pub below_past : (count n : ℕ) → count ≤ 64 → count ≤ n → bit_at ((2 ^ 64 - 1) / 2 ^ (64 - count)) n ≡ 0
below_past count n most h = ap (λ m. bit_at m n) (ones_shr 64 (64 - count) (omega arith)) ∙ bit_at_ones_above (64 - (64 - count)) n (omega arith)

-- a number put in, or taken out
pub put_in : (set n : ℕ) → n < 64 → IsWith set n true (bit_or set (1 * 2 ^ n % 2 ^ 64))
put_in set n h = record { one = bit_at_set_same w64 set n h; others = λ m _ other. bit_at_set_other w64 set n h m other }

pub put_out : (set n : ℕ) → n < 64 → IsWith set n false (bit_and set (2 ^ 64 - 1 - 1 * 2 ^ n % 2 ^ 64))
put_out set n h = record { one = bit_at_clear_same w64 set n h; others = λ m within other. bit_at_clear_other w64 set n h m within other }

-- the set from `low` on
abbrev pub from_low : ℕ → ℕ → ℕ
from_low set low = bit_and set ((2 ^ 64 - 1) * 2 ^ low % 2 ^ 64)

-- its bits
pub bits_from : (set low i : ℕ) → low ≤ 64 → low ≤ i → i < 64 → bit_at (from_low set low) i ≡ bit_at set i
bits_from set low i most from within =
    ap (λ m. bit_at (bit_and set m) i) (ones_shl 64 low most) ∙ bit_at_and set (2 ^ 64 - 2 ^ low) i ∙ omega (arith, bit_at_mask_inside low 64 i from within, bit_at-lt set i)

pub bits_before : (set low i : ℕ) → low ≤ 64 → i < low → bit_at (from_low set low) i ≡ 0
bits_before set low i most before =
    ap (λ m. bit_at (bit_and set m) i) (ones_shl 64 low most) ∙ bit_at_and set (2 ^ 64 - 2 ^ low) i ∙ omega (arith, bit_at_mask_below low 64 i before)

-- nothing is left from `low` on
pub none_from : (set low : ℕ) → low ≤ 64 → from_low set low ≡ 0 → NoneIn set low 64
none_from set low most none n from within = sym (bits_from set low n most from within) ∙ ap (λ m. bit_at m n) none ∙ bit_at-zero n

-- the lowest bit from `low` on
pub next_from : (set low : ℕ) → low ≤ 64 → set < 2 ^ 64 → 0 < from_low set low → IsNextIn set low (trailing_zeros w64 (from_low set low))
next_from set low most fits some =
    let k = trailing_zeros w64 (from_low set low) in
    let h = bit_at-trailing_zeros w64 (from_low set low) some (omega (arith, and_le_l set ((2 ^ 64 - 1) * 2 ^ low % 2 ^ 64))) in
    let from : low ≤ k = grind (arith, bits_before set low k most, h.1) in
    record {
      from = from;
      within = h.0;
      is_in = sym (bits_from set low k most from h.0) ∙ h.1;
      first = λ n at before. sym (bits_from set low n most at (omega (arith, h.0))) ∙ h.2 n before;
    }
