-- The transit filter: until when packets may set its places, and when it is clear.
use Rattle.std.specs.Prelude.{◌≡◌, ℕ, ◌<◌, ◌⊎◌, None}
use Rattle.sr_base.specs.VipWord.{packed_vip}
use Rattle.sr_base.specs.WordName.{filter_words}
use Rattle.sr_base.specs.declared.vip_word.Phase.{Phase}
use Rattle.sr_base.specs.declared.vip_word.Phase.TheVariants.{Recording, Holding}
use Rattle.sr_base.specs.declared.vip_word.VipWord.{VipWord}
use Rattle.sr_inv_facts.specs.Flying.{OnFlight}
use Rattle.sr_inv_facts.specs.Readings.{EachPipe}
use Rattle.sr_inv_table.specs.Loaded.{InGrace}
use Rattle.sr_machine.specs.Core.{Core}
use Rattle.sr_machine.specs.declared.name.Name.TheVariants as name

-- the word of a virtual address says this phase
abbrev pub IsIn : Core → ℕ → Phase → Type 0
IsIn s vip phase = (w : VipWord) × (s.words (name.Vip vip) ≡ packed_vip w) × (w.phase ≡ phase)

-- it says Recording, or Holding in the grace after its store
abbrev pub IsInTime : Core → ℕ → Type 0
IsInTime s vip =
    IsIn s vip Recording ⊎ (IsIn s vip Holding × InGrace s.controller.job (λ u phase. (vip ≡ u.vip) × (phase ≡ Holding)))

-- a packet that has loaded Recording is in flight only then
abbrev pub RecordersAreInTime : Core → Type 0
RecordersAreInTime s = EachPipe (λ p v. OnFlight v.stage (λ f. f.vip.phase ≡ Recording → IsInTime s f.packet.key.vip)) s.pipes

-- each word of the filter is 0 while no update is in progress
abbrev pub FilterIsClear : Core → Type 0
FilterIsClear s = s.controller.update ≡ None → (i : ℕ) → i < filter_words s.config.layout.shape → s.words (name.Filter i) ≡ 0
