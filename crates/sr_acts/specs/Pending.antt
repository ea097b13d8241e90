-- What is asked of pending entries, and from which number on it is still to be asked.
use Rattle.std.specs.List.{AllByRecursion}
use Rattle.std.specs.Prelude.{◌≡◌, ℕ, ◌<◌, ◌≤◌, Bool, true, false, List, is_some, Option, Some, None}
use Rattle.sr_acts.specs.declared.awaiting.Awaiting.{Awaiting}
use Rattle.sr_acts.specs.declared.awaiting.Awaiting.TheVariants.{BeforeHold, BeforeFinish}
use Rattle.sr_base.specs.Key.{KeyView}
use Rattle.sr_base.specs.declared.place.Place.{Place}
use Rattle.sr_base.specs.declared.shape.Shape.{Shape}
use Rattle.sr_base.specs.declared.vip_word.Phase.{Phase}
use Rattle.sr_base.specs.declared.vip_word.Phase.TheVariants.{Steady, Recording, Holding, Transit}
use Rattle.sr_base.specs.declared.vip_word.VipWord.{VipWord}
use Rattle.sr_machine.specs.Deciding.{vip_at}
use Rattle.sr_machine.specs.Starting.{pending_put}
use Rattle.sr_machine.specs.declared.pool_update.PoolUpdate.{PoolUpdate}
use Rattle.sr_shadow.specs.Book.{entry_for}
use Rattle.sr_shadow.specs.Entry.{is_slot}
use Rattle.sr_shadow.specs.declared.book.Book.{Book}
use Rattle.sr_shadow.specs.declared.entry.Entry.{Entry}
use Rattle.sr_update.specs.Waits.{recording_waits_for, transit_waits_for}

-- an update waits for the entry
abbrev pub awaits : Awaiting → Entry → Bool
awaits (BeforeHold vip mark) e = recording_waits_for vip mark e
awaits (BeforeFinish vip replaced) e = transit_waits_for vip replaced e

-- the entry is pending, and its key has a plan
abbrev pub has_put : Shape → List Entry → Entry → Bool
has_put shape entries e = is_some (pending_put shape entries e)

-- no entry that was taken before this number passes
abbrev pub NoneBefore : (Entry → Bool) → ℕ → List Entry → Type 0
NoneBefore test number entries = AllByRecursion (λ e. e.taken < number → test e ≡ false) entries

-- those before this number, at most all that were ever taken, were asked, and none passes
pub record IsAsked (test : Entry → Bool) (number : ℕ) (b : Book) : Type 0 where
  pub within : number ≤ b.taken
  pub none : NoneBefore test number b.entries

-- the number of an entry, or how many were ever taken
abbrev pub number_of : Option Entry → ℕ → ℕ
number_of None taken = taken
number_of (Some e) taken = e.taken

-- a pending key settles in a slot
abbrev pub SettlesInSlot : KeyView → Place → List Entry → Type 0
SettlesInSlot key place entries = (e : Entry) × (entry_for key entries ≡ Some e) × (e.place ≡ None) × (is_slot place ≡ true)

-- what an update waits for in a phase
abbrev pub awaiting_in : PoolUpdate → ℕ → Phase → Option Awaiting
awaiting_in u mark Steady = None
awaiting_in u mark Recording = Some (BeforeHold u.vip mark)
awaiting_in u mark Holding = None
awaiting_in u mark Transit = Some (BeforeFinish u.vip u.replaced)

-- what the update that is under way waits for
abbrev pub awaiting_by : Option PoolUpdate → ℕ → List VipWord → Option Awaiting
awaiting_by None mark vips = None
awaiting_by (Some u) mark vips = awaiting_in u mark (vip_at vips u.vip).phase
