-- Version numbers: a free one is named nowhere, and the words of every other one hold the pool of its last Given line.
use Rattle.std.specs.List.{AllByRecursion}
use Rattle.std.specs.Prelude.{◌≡◌, ℕ, ◌<◌, false, ◌≢◌, Some}
use Rattle.sr_base.specs.Key.{KeyView}
use Rattle.sr_base.specs.declared.place.Place.{Place}
use Rattle.sr_base.specs.declared.vip_word.VipWord.{VipWord}
use Rattle.sr_inv_facts.specs.Flying.{OnLeg, OnNumber}
use Rattle.sr_inv_facts.specs.InUpdate.{pool_given}
use Rattle.sr_inv_facts.specs.InWords.{HoldsPool}
use Rattle.sr_inv_facts.specs.Invariant.{Invariant}
use Rattle.sr_inv_facts.specs.Readings.{EachLearn, EachPipe, ring_words}
use Rattle.sr_law.specs.Given.{last_version}
use Rattle.sr_machine.specs.Core.{Core, printed}
use Rattle.sr_machine.specs.Reads.{read_vip, says}
use Rattle.sr_machine.specs.declared.flight.Flight.{Flight}
use Rattle.sr_machine.specs.declared.leg.Leg.{Leg}
use Rattle.sr_update.specs.Numbers.{is_free, state_of}
use Rattle.sr_update.specs.declared.number_state.NumberState.{NumberState}
use Rattle.sr_update.specs.declared.number_state.NumberState.TheVariants.{Free}
use Rattle.sr_machine.specs.declared.name.Name.TheVariants as name
use Rattle.sr_machine.specs.declared.said.Said.TheVariants as said

-- the word of a virtual address names the number neither as the current nor as the next one
pub record IsUnnamed (w : VipWord) (n : ℕ) : Type 0 where
  pub cur : w.cur ≢ n
  pub next : w.next ≢ n

-- a packet has loaded no word that names the number, and neither found nor chosen it
pub record IsUnused (f : Flight) (leg : Leg) (n : ℕ) : Type 0 where
  pub loaded : IsUnnamed f.vip n
  pub chosen : OnNumber leg (λ m. m ≢ n)

-- neither the words nor the book nor a packet in flight of the virtual address names the number
pub record StandsNowhere (s : Core) (vip n : ℕ) : Type 0 where
  pub word : IsUnnamed (read_vip s.config.layout (s.words (name.Vip vip))) n
  pub places : (place : Place) (key : KeyView) → key.vip ≡ vip → says s.config.layout place key (s.words (name.Entry place)) ≢ said.Live n
  pub entries : AllByRecursion (λ e. e.key.vip ≡ vip → e.version ≢ n) s.controller.book.entries
  pub learns : EachLearn s.config.layout (ring_words s.words) (λ key version. key.vip ≡ vip → version ≢ n)
  pub flights : EachPipe (λ p v. OnLeg v.stage (λ f leg. f.packet.key.vip ≡ vip → IsUnused f leg n)) s.pipes

abbrev pub FreeStandNowhere : Type 0
FreeStandNowhere =
    (s : Core) → Invariant s → (vip n : ℕ) → vip < s.config.layout.vips → state_of vip n s.controller.numbers ≡ Some Free
    → StandsNowhere s vip n

abbrev pub UsedHoldPools : Type 0
UsedHoldPools =
    (s : Core) → Invariant s → (vip n : ℕ) (is : NumberState) → state_of vip n s.controller.numbers ≡ Some is → is_free is ≡ false
    → HoldsPool s.config s.words vip n (pool_given (last_version (printed s) vip n))
