-- What a controller begins, as a list of cases: each with why it is that one. A proof that goes by these cases sees no test.
use Rattle.std.specs.Prelude.{◌≡◌, ℕ, ◌+◌, nat_le, true, List, ◌∷◌, Contains, Some, None}
use Rattle.sr_base.specs.declared.place.Place.{Place}
use Rattle.sr_base.specs.declared.vip_word.Phase.TheVariants.{Steady, Recording, Holding, Transit}
use Rattle.sr_shadow.specs.Book.{entry_for, first_retirable}
use Rattle.sr_shadow.specs.Entry.{is_pending}
use Rattle.sr_shadow.specs.Plan.{first_plan}
use Rattle.sr_shadow.specs.declared.entry.Entry.{Entry}
use Rattle.sr_machine.specs.Config.{Config}
use Rattle.sr_machine.specs.Deciding.{vip_at}
use Rattle.sr_update.specs.Numbers.{first_drained, least_free}
use Rattle.sr_update.specs.Updates.{has_come}
use Rattle.sr_machine.specs.Starting.{Start, beginning, opener_act, outage_act, outage_start, pending_act, put_of, refusal_act, refusal_start, release_act, retire_act, sweep_act, update_act, update_to, with_job}
use Rattle.sr_update.specs.Waits.{first_before_finish, first_before_hold}
use Rattle.sr_machine.specs.declared.controller_view.ControllerView.{ControllerView}
use Rattle.sr_machine.specs.declared.draw.Draw.TheVariants as draw
use Rattle.sr_machine.specs.declared.held_opener.HeldOpener.{HeldOpener}
use Rattle.sr_machine.specs.declared.job.Job.TheVariants as job
use Rattle.sr_machine.specs.declared.outage.Outage.{Outage}
use Rattle.sr_update.specs.declared.give_change.GiveChange.{GiveChange}
use Rattle.sr_machine.specs.declared.put.Aim.TheVariants as aim
use Rattle.sr_machine.specs.declared.put.Put.{Put}
use Rattle.sr_machine.specs.declared.store.Store.TheVariants as store
use Rattle.sr_machine.specs.declared.pool_update.PoolUpdate.{PoolUpdate}
use Rattle.sr_machine.specs.declared.wait.Wait.TheVariants as wait

-- no act applies
pub record NoAct (k : Config) (c : ControllerView) : Type 0 where
  pub refusal : refusal_act c ≡ None
  pub outage : outage_act c ≡ None
  pub update : update_act c ≡ None
  pub opener : opener_act k c ≡ None
  pub pending : pending_act k c ≡ None
  pub retirement : retire_act k c ≡ None
  pub sweep : sweep_act k c ≡ None
  pub release : release_act c ≡ None

-- what a controller without a job begins
pub data Begins (k : Config) (c : ControllerView) : Start → Type 0 where
  refuses : (g : GiveChange) (rest : List GiveChange) → c.refusing ≡ true → c.gives ≡ g ∷ rest
      → Begins k c (refusal_start c g rest)
  takes_down : (o : Outage) (rest : List Outage) → c.outages ≡ o ∷ rest → has_come o.at_ms c.clock ≡ true
      → Begins k c (outage_start c o rest)
  holds : (u : PoolUpdate) → c.update ≡ Some u → (vip_at c.vips u.vip).phase ≡ Recording
      → first_before_hold u.vip c.mark c.book.entries ≡ None
      → Begins k c (with_job c (job.Draw (draw.Comes u Holding)))
  finishes : (u : PoolUpdate) → c.update ≡ Some u → (vip_at c.vips u.vip).phase ≡ Transit
      → first_before_finish u.vip u.replaced c.book.entries ≡ None
      → Begins k c (with_job c (job.Store (store.Vip u Steady)))
  changes : (g : GiveChange) (rest : List GiveChange) (number : ℕ) → c.update ≡ None → c.gives ≡ g ∷ rest
      → has_come g.at_ms c.clock ≡ true
      → least_free g.vip c.numbers ≡ Some number → Begins k c (beginning c rest (update_to c g number))
  answers : (h : HeldOpener) (rest : List HeldOpener) (e : Entry) → c.held ≡ h ∷ rest → entry_for h.key c.book.entries ≡ Some e
      → Begins k c (with_job c (job.Draw (draw.Answer (record { held = h; version = Some e.version }))))
  places_held : (h : HeldOpener) (rest : List HeldOpener) (p : Put) → c.held ≡ h ∷ rest → entry_for h.key c.book.entries ≡ None
      → put_of h.key (aim.Held h) (first_plan k.layout.shape c.book.entries h.key) ≡ Some p
      → Begins k c (with_job c (job.Draw (draw.Reserved p)))
  has_no_place : (h : HeldOpener) (rest : List HeldOpener) → c.held ≡ h ∷ rest → entry_for h.key c.book.entries ≡ None
      → put_of h.key (aim.Held h) (first_plan k.layout.shape c.book.entries h.key) ≡ None
      → Begins k c (with_job c (job.Draw (draw.Answer (record { held = h; version = None }))))
  places : (e : Entry) (p : Put) → Contains c.book.entries e → is_pending e ≡ true
      → put_of e.key aim.Pending (first_plan k.layout.shape c.book.entries e.key) ≡ Some p
      → Begins k c (with_job c (job.Draw (draw.Reserved p)))
  retires : (e : Entry) (place : Place) → first_retirable k.layout.shape.lives c.book.entries ≡ Some e → e.place ≡ Some place
      → Begins k c (with_job c (job.Draw (draw.Retired e.key place e.version)))
  sweeps : (ms : ℕ) → c.clock ≡ Some ms → nat_le (c.swept_ms + k.layout.shape.idle_ms) ms ≡ true
      → Begins k c (with_job c (job.Draw (draw.From ms)))
  releases : (vip version : ℕ) → first_drained c.numbers c.book.entries ≡ Some (vip, version)
      → Begins k c (with_job c (job.Draw (draw.Grace (wait.Release vip version))))
  looks : NoAct k c → Begins k c (with_job c (job.Look 0))
