-- A cell's word of the connection table, as a number.
use Rattle.std.specs.Prelude.{ℕ, ◌+◌, ◌*◌, ◌/◌, ◌^◌, ◌<◌, ◌==◌, ◌&&◌, if◌then◌else◌, Option, Some, None}
use Rattle.sr_base.specs.Fields.{bits}
use Rattle.sr_base.specs.declared.slot_word.SlotWord.{SlotWord}
use Rattle.sr_base.specs.declared.slot_word.SlotWord.TheVariants.{Empty, Reserved, Live}

-- the state above 26 bits, the virtual address above 22, the digest above 6, the version below
abbrev pub slot_number : ℕ → ℕ → ℕ → ℕ → ℕ
slot_number state vip digest version = ((state * 2 ^ 4 + vip) * 2 ^ 16 + digest) * 2 ^ 6 + version

abbrev pub packed_slot : SlotWord → ℕ
packed_slot Empty = 0
packed_slot (Reserved vip digest) = slot_number 1 vip digest 0
packed_slot (Live vip digest version) = slot_number 2 vip digest version

-- its virtual address, if it has one, is below 16
abbrev pub SlotVipFits : SlotWord → Type 0
SlotVipFits Empty = Unit {0}
SlotVipFits (Reserved vip digest) = vip < 16
SlotVipFits (Live vip digest version) = vip < 16

-- its digest and its version, if it has one, are in range
abbrev pub SlotPartsFit : SlotWord → Type 0
SlotPartsFit Empty = Unit {0}
SlotPartsFit (Reserved vip digest) = digest < 2 ^ 16
SlotPartsFit (Live vip digest version) = (digest < 2 ^ 16) × (version < 2 ^ 6)

pub record IsSlotWord (w : SlotWord) : Type 0 where
  pub vip : SlotVipFits w
  pub parts : SlotPartsFit w

-- the word of these parts, if there is one
abbrev pub slot_of : ℕ → ℕ → ℕ → ℕ → Option SlotWord
slot_of state vip digest version =
    if (state == 0) && ((vip == 0) && ((digest == 0) && (version == 0))) then Some Empty else
    (if (state == 1) && (version == 0) then Some (Reserved vip digest) else
    (if state == 2 then Some (Live vip digest version) else None))

-- the word that packs to this number, if there is one
abbrev pub unpacked_slot : ℕ → Option SlotWord
unpacked_slot word = slot_of (word / 2 ^ 26) (bits 22 4 word) (bits 6 16 word) (bits 0 6 word)
