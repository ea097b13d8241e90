-- A virtual address's word, as a number.
use Rattle.std.specs.Prelude.{◌≡◌, ℕ, ◌+◌, ◌*◌, ◌/◌, ◌^◌, ◌<◌, ◌==◌, ◌&&◌, if◌then◌else◌, Option, Some, None}
use Rattle.sr_base.specs.Fields.{bits}
use Rattle.sr_base.specs.declared.vip_word.Phase.{Phase}
use Rattle.sr_base.specs.declared.vip_word.Phase.TheVariants.{Steady, Recording, Holding, Transit}
use Rattle.sr_base.specs.declared.vip_word.VipWord.{VipWord}

abbrev pub phase_number : Phase → ℕ
phase_number Steady = 0
phase_number Recording = 1
phase_number Holding = 2
phase_number Transit = 3

-- the phase above 12 bits, the current version above 6, the next one below
abbrev pub packed_vip : VipWord → ℕ
packed_vip w = (phase_number w.phase * 2 ^ 6 + w.cur) * 2 ^ 6 + w.next

-- without an update the next version is the current one
abbrev pub NextFits : Phase → ℕ → ℕ → Type 0
NextFits Steady cur next = next ≡ cur
NextFits Recording cur next = Unit {0}
NextFits Holding cur next = Unit {0}
NextFits Transit cur next = Unit {0}

pub record IsVipWord (w : VipWord) : Type 0 where
  pub cur : w.cur < 2 ^ 6
  pub next : w.next < 2 ^ 6
  pub fits : NextFits w.phase w.cur w.next

-- the word of these parts, if there is one
abbrev pub vip_of : ℕ → ℕ → ℕ → Option VipWord
vip_of phase cur next =
    if (phase == 0) && (next == cur) then Some (record { phase = Steady; cur = cur; next = next }) else
    (if phase == 1 then Some (record { phase = Recording; cur = cur; next = next }) else
    (if phase == 2 then Some (record { phase = Holding; cur = cur; next = next }) else
    (if phase == 3 then Some (record { phase = Transit; cur = cur; next = next }) else None)))

-- the word that packs to this number, if there is one
abbrev pub unpacked_vip : ℕ → Option VipWord
unpacked_vip word = vip_of (word / 2 ^ 12) (bits 6 6 word) (bits 0 6 word)
