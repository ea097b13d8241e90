-- The tables: what each slot and row holds.
use Rattle.std.specs.Prelude.{◌≡◌, ℕ, true, ◌≢◌, Some, None}
use Rattle.sr_base.specs.Key.{KeyView}
use Rattle.sr_base.specs.declared.place.Place.{Place}
use Rattle.sr_inv_facts.specs.Doing.{OnReserved}
use Rattle.sr_machine.specs.Core.{Core}
use Rattle.sr_machine.specs.Reads.{live_word, reserved_word}
use Rattle.sr_machine.specs.declared.job.Job.{Job}
use Rattle.sr_shadow.specs.Book.{entry_for, holder_of}
use Rattle.sr_shadow.specs.Entry.{holds}
use Rattle.sr_shadow.specs.declared.entry.Entry.{Entry}
use Rattle.sr_machine.specs.declared.job.Job.TheVariants as job
use Rattle.sr_machine.specs.declared.name.Name.TheVariants as name
use Rattle.sr_machine.specs.declared.store.Store.TheVariants as store
use Rattle.sr_machine.specs.declared.why.Why.TheVariants as why

-- of the place of a connection that was retired, which is emptied next
abbrev pub OnEmptied : Job → (KeyView → Place → ℕ → Type 0) → Type 0
OnEmptied (job.Store (store.Empty key place (why.Retired version))) P = P key place version
OnEmptied j P = Unit {0}

-- the job has nothing at this place
abbrev pub IsUntouched : Job → Place → Type 0
IsUntouched j place = OnReserved j (λ q. place ≢ q.place) × OnEmptied j (λ key at version. place ≢ at)

-- A place that an entry holds, as its own or as the one that it is about to leave, is live with the entry's version; the place of a put
-- that waits to be made live is reserved; that of a retired connection is live until it is emptied; every other place is empty.
pub record TableHolds (s : Core) : Type 0 where
  pub live : (key : KeyView) (e : Entry) (place : Place) → entry_for key s.controller.book.entries ≡ Some e → holds place e ≡ true
      → s.words (name.Entry place) ≡ live_word s.config.layout place key e.version
  pub reserved : OnReserved s.controller.job (λ q. s.words (name.Entry q.place) ≡ reserved_word s.config.layout q.place q.key)
  pub over : OnEmptied s.controller.job (λ key place version. s.words (name.Entry place) ≡ live_word s.config.layout place key version)
  pub empty : (place : Place) → holder_of place s.controller.book.entries ≡ None → IsUntouched s.controller.job place
      → s.words (name.Entry place) ≡ 0
