-- A row's word of the table of full keys, as a number.
use Rattle.std.specs.Prelude.{ℕ, ◌+◌, ◌*◌, ◌/◌, ◌^◌, ◌<◌, ◌==◌, ◌&&◌, if◌then◌else◌, Option, Some, None}
use Rattle.sr_base.specs.Fields.{bits}
use Rattle.sr_base.specs.Key.{IsKey, key_of, packed}
use Rattle.sr_base.specs.declared.full_word.FullWord.{FullWord}
use Rattle.sr_base.specs.declared.full_word.FullWord.TheVariants.{Empty, Reserved, Live}

-- the state above 58 bits, the version above 52, the key below
abbrev pub full_number : ℕ → ℕ → ℕ → ℕ
full_number state version key = (state * 2 ^ 6 + version) * 2 ^ 52 + key

abbrev pub packed_full : FullWord → ℕ
packed_full Empty = 0
packed_full (Reserved key) = full_number 1 0 (packed key)
packed_full (Live key version) = full_number 2 version (packed key)

-- its parts are in range
abbrev pub IsFullWord : FullWord → Type 0
IsFullWord Empty = Unit {0}
IsFullWord (Reserved key) = IsKey key
IsFullWord (Live key version) = IsKey key × (version < 2 ^ 6)

-- the word of these parts, if there is one
abbrev pub full_of : ℕ → ℕ → ℕ → Option FullWord
full_of state version key =
    if (state == 0) && ((version == 0) && (key == 0)) then Some Empty else
    (if (state == 1) && (version == 0) then Some (Reserved (key_of key)) else
    (if state == 2 then Some (Live (key_of key) version) else None))

-- the word that packs to this number, if there is one
abbrev pub unpacked_full : ℕ → Option FullWord
unpacked_full word = full_of (word / 2 ^ 58) (bits 52 6 word) (bits 0 52 word)
