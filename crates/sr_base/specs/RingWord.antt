-- A word of a pipe's ring, as a number.
use Rattle.std.specs.Prelude.{◌≡◌, ℕ, ◌+◌, ◌*◌, ◌/◌, ◌^◌, ◌<◌, ◌==◌, ◌&&◌, if◌then◌else◌, Option, Some, None}
use Rattle.sr_base.specs.Fields.{bits}
use Rattle.sr_base.specs.Key.{KeyView, IsKey, key_of, packed}
use Rattle.sr_base.specs.declared.ring_word.RingKind.{RingKind}
use Rattle.sr_base.specs.declared.ring_word.RingKind.TheVariants.{Learn, Punt, Close}
use Rattle.sr_base.specs.declared.ring_word.RingWord.{RingWord}

abbrev pub kind_number : RingKind → ℕ
kind_number Learn = 1
kind_number Punt = 2
kind_number Close = 3

-- the kind above 58 bits, the version above 52, the key below
abbrev pub packed_ring : RingWord → ℕ
packed_ring w = (kind_number w.kind * 2 ^ 6 + w.version) * 2 ^ 52 + packed w.key

-- only a Learn tells a version
abbrev pub TellsVersion : RingKind → ℕ → Type 0
TellsVersion Learn version = Unit {0}
TellsVersion Punt version = version ≡ 0
TellsVersion Close version = version ≡ 0

pub record IsRingWord (w : RingWord) : Type 0 where
  pub key : IsKey w.key
  pub version : w.version < 2 ^ 6
  pub tells : TellsVersion w.kind w.version

-- the word of these parts, if there is one
abbrev pub ring_of : ℕ → ℕ → KeyView → Option RingWord
ring_of kind version key =
    if kind == 1 then Some (record { kind = Learn; version = version; key = key }) else
    (if (kind == 2) && (version == 0) then Some (record { kind = Punt; version = version; key = key }) else
    (if (kind == 3) && (version == 0) then Some (record { kind = Close; version = version; key = key }) else None))

-- the word that packs to this number, if there is one
abbrev pub unpacked_ring : ℕ → Option RingWord
unpacked_ring word = ring_of (word / 2 ^ 58) (bits 52 6 word) (key_of word)
