-- When a put may begin, whoever chose its place.
use Rattle.std.specs.Prelude.{◌≡◌, ℕ, ◌⊎◌, false, true, List}
use Rattle.sr_base.specs.declared.place.Place.TheVariants.{Row}
use Rattle.sr_base.specs.declared.shape.Shape.{Shape}
use Rattle.sr_hash.specs.Uses.{is_place_of}
use Rattle.sr_inv_facts.specs.InJobs.{AimHolds}
use Rattle.sr_inv_facts.specs.Invariant.{Invariant}
use Rattle.sr_inv_facts.specs.Putting.{put_core}
use Rattle.sr_machine.specs.Core.{Core}
use Rattle.sr_machine.specs.Starting.{begun}
use Rattle.sr_machine.specs.declared.held_opener.HeldOpener.{HeldOpener}
use Rattle.sr_machine.specs.declared.job.Job.{Job}
use Rattle.sr_machine.specs.declared.job.Job.TheVariants.{Draw, Free}
use Rattle.sr_machine.specs.declared.put.Aim.{Aim}
use Rattle.sr_machine.specs.declared.put.Aim.TheVariants.{Move}
use Rattle.sr_machine.specs.declared.put.Put.{Put}
use Rattle.sr_shadow.specs.Plan.{GivesRow, GivesSlot, is_usable, with_key}
use Rattle.sr_shadow.specs.declared.entry.Entry.{Entry}
use Rattle.sr_machine.specs.declared.draw.Draw.TheVariants as draw

-- a key may go into a slot of its buckets that is usable for it, if it is clear; or into a row of its group that nobody holds
abbrev pub MayEnter : Shape → List Entry → Put → Type 0
MayEnter shape entries p =
    GivesSlot shape entries p.key p.place ⊎ ((row : ℕ) × (p.place ≡ Row row) × GivesRow shape entries p.key row)

-- an entry may move to a slot of its buckets that is usable for it, where the key that this makes room for counts as registered
abbrev pub MayTake : Shape → List Entry → Put → Aim → Type 0
MayTake shape entries p (Move from planned) =
    (is_place_of shape p.key p.place ≡ true) × (is_usable shape (with_key planned entries) p.key p.place ≡ true)
MayTake shape entries p aim = MayEnter shape entries p

-- A put may begin: it is for a pending key, for the first held opener, whose key has no Live place, or for an entry that stands in another slot; and
-- its place may be taken for that.
pub record MayPut (shape : Shape) (entries : List Entry) (held : List HeldOpener) (p : Put) : Type 0 where
  pub aim : AimHolds entries held p p.aim
  pub place : MayTake shape entries p p.aim

-- a controller may begin the put: it has no job, no refusal was told to it, and the put may begin by its book and by its held openers
pub record MayBeginPut (s : Core) (p : Put) : Type 0 where
  pub free : s.controller.job ≡ Free
  pub calm : s.controller.refusing ≡ false
  pub may : MayPut s.config.layout.shape s.controller.book.entries s.controller.held p

-- the invariant is kept by every put that a controller may begin
abbrev pub PutsKeepInvariant : Type 0
PutsKeepInvariant = (s : Core) (p : Put) → Invariant s → MayBeginPut s p → Invariant (put_core s p)

-- of a put that begins with this job
abbrev pub OnBegun : Job → (Put → Type 0) → Type 0
OnBegun (Draw (draw.Reserved p)) P = P p
OnBegun j P = Unit {0}

-- a put that a free controller begins may begin
abbrev pub BeginsMayPut : Core → Type 0
BeginsMayPut s = s.controller.job ≡ Free
    → OnBegun (begun s.config s.controller).job (MayPut s.config.layout.shape s.controller.book.entries s.controller.held)
