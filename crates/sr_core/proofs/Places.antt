-- The places and bits that a pipe keeps are the layout's.
use Rattle.std.proofs.Common.{ℕ, zero, suc, ◌<◌, List, [], ◌∷◌, length, slice_index, slice_index_or, arith}
use Rattle.sr_base.specs.WordName.{HasPlace}
use Rattle.sr_base.specs.declared.place.Place.{Place}
use Rattle.sr_base.specs.declared.shape.Shape.{Shape}
use Rattle.sr_core.specs.Tracks.{HaveBits, HavePlaces}

pub has_place : (s : Shape) (places : List Place) (at : ℕ) (d : Place) → at < length places → HavePlaces s places
    → HasPlace s (slice_index_or places at d)
has_place s [] at d h p = absurd (omega (arith, h))
has_place s (place ∷ rest) zero d h p = p.0
has_place s (place ∷ rest) (suc at) d h p = has_place s rest at d (omega (arith, h)) p.1

pub has_bit_at : (s : Shape) (bits : List ℕ) (at : ℕ) → at < length bits → HaveBits s bits → slice_index bits at < s.filter_bits
has_bit_at s [] at h p = absurd (omega (arith, h))
has_bit_at s (bit ∷ rest) zero h p = p.0
has_bit_at s (bit ∷ rest) (suc at) h p = has_bit_at s rest at (omega (arith, h)) p.1
