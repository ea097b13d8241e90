-- The transit filter: which keys are in it, by the phase that the word of their virtual address tells.
use Rattle.std.specs.List.{AllByRecursion}
use Rattle.std.specs.Prelude.{◌≡◌, ℕ, true, false, ◌⊎◌}
use Rattle.sr_base.specs.Key.{KeyView}
use Rattle.sr_base.specs.declared.vip_word.Phase.TheVariants.{Recording, Transit}
use Rattle.sr_base.specs.declared.vip_word.VipWord.{VipWord}
use Rattle.sr_inv_facts.specs.InFilter.{is_settling}
use Rattle.sr_inv_facts.specs.Invariant.{Invariant}
use Rattle.sr_inv_facts.specs.Readings.{EachLearn, bit_words, is_marked, ring_words}
use Rattle.sr_machine.specs.Core.{Core}
use Rattle.sr_machine.specs.Reads.{read_vip}
use Rattle.sr_shadow.specs.Entry.{is_pending}
use Rattle.sr_shadow.specs.declared.entry.Entry.{Entry}
use Rattle.sr_update.specs.Waits.{recording_waits_for}
use Rattle.sr_machine.specs.declared.name.Name.TheVariants as name

-- what the word of a virtual address says
abbrev pub word_of : Core → ℕ → VipWord
word_of s vip = read_vip s.config.layout (s.words (name.Vip vip))

-- each of the key's places of the filter is set
abbrev pub IsMarked : Core → KeyView → Type 0
IsMarked s key = is_marked s.config.layout (bit_words s.words) key ≡ true

-- a key of the virtual address that waits for a place: the update waits for it, or it is in the filter
abbrev pub AwaitedOrMarked : Core → ℕ → Entry → Type 0
AwaitedOrMarked s vip e =
    e.key.vip ≡ vip → is_pending e ≡ true → (recording_waits_for vip s.controller.mark e ≡ true) ⊎ IsMarked s e.key

-- in Recording, once the graces and the drain of it have ended
abbrev pub RecordedMarked : Type 0
RecordedMarked =
    (s : Core) → Invariant s → (vip : ℕ) → (word_of s vip).phase ≡ Recording → is_settling Recording s.controller.job ≡ false
    → AllByRecursion (AwaitedOrMarked s vip) s.controller.book.entries

-- the keys of the virtual address that have its current version are in the filter: those that wait for a place, and those of reports
pub record KeptAreMarked (s : Core) (vip : ℕ) : Type 0 where
  pub pending : AllByRecursion (λ e. e.key.vip ≡ vip → is_pending e ≡ true → e.version ≡ (word_of s vip).cur → IsMarked s e.key)
      s.controller.book.entries
  pub learns : EachLearn s.config.layout (ring_words s.words)
      (λ key version. key.vip ≡ vip → version ≡ (word_of s vip).cur → IsMarked s key)

-- in Transit
abbrev pub KeptMarked : Type 0
KeptMarked = (s : Core) → Invariant s → (vip : ℕ) → (word_of s vip).phase ≡ Transit → KeptAreMarked s vip
