-- How the entries of the controller's book stand to its job.
use Rattle.std.specs.List.{AllByRecursion}
use Rattle.std.specs.Prelude.{◌≡◌, List, None}
use Rattle.sr_base.specs.Key.{KeyView}
use Rattle.sr_inv_facts.specs.Doing.{OnLive, OnPut}
use Rattle.sr_inv_facts.specs.InJobs.{HasNoPlace, StandsAt, leaving}
use Rattle.sr_machine.specs.declared.controller_view.ControllerView.{ControllerView}
use Rattle.sr_machine.specs.declared.job.Job.{Job}
use Rattle.sr_machine.specs.declared.job.Job.TheVariants.{Hit}
use Rattle.sr_machine.specs.declared.put.Aim.{Aim}
use Rattle.sr_machine.specs.declared.put.Aim.TheVariants as aim
use Rattle.sr_machine.specs.declared.put.Put.{Put}
use Rattle.sr_shadow.specs.Book.{CanSweep, holder_of}
use Rattle.sr_shadow.specs.declared.entry.Entry.{Entry}

-- the key of a put has no Live place, but for a move, whose entry stands at the slot that it is to leave
abbrev pub AimStands : List Entry → KeyView → Aim → Type 0
AimStands entries key aim.Pending = HasNoPlace key entries
AimStands entries key (aim.Held h) = HasNoPlace key entries
AimStands entries key (aim.Move from planned) = StandsAt key from entries

-- and nobody holds its place
pub record PutStands (entries : List Entry) (p : Put) : Type 0 where
  pub free : holder_of p.place entries ≡ None
  pub aim : AimStands entries p.key p.aim

-- of the key whose hit a sweep takes
abbrev pub OnHit : Job → (KeyView → Type 0) → Type 0
OnHit (Hit from ms key place taken) P = P key
OnHit j P = Unit {0}

-- What stands while a job is set: only a key that moves is about to leave a place, the one that the job says; a put that isn't live yet can be made live;
-- a live one stands at its place; a sweep comes to a placed key.
pub record Standing (entries : List Entry) (j : Job) : Type 0 where
  pub also : AllByRecursion (λ e. e.also ≡ leaving j e.key) entries
  pub put : OnPut j (PutStands entries)
  pub live : OnLive j (λ p. StandsAt p.key p.place entries)
  pub hit : OnHit j (λ key. CanSweep key entries)

-- the same of what a controller knows
abbrev pub Stands : ControllerView → Type 0
Stands c = Standing c.book.entries c.job
