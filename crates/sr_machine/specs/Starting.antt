-- What a controller without a job begins: the first act that applies, in the order of the acts.
use Rattle.std.specs.Prelude.{ℕ, ◌+◌, nat_le, is_none, Bool, true, false, List, [], ◌∷◌, unwrap_or, option_map, option_and_then, Option, Some, None, if◌then◌else◌}
use Rattle.std.specs.Option.{option_or}
use Rattle.sr_base.specs.Key.{KeyView}
use Rattle.sr_base.specs.declared.place.Place.TheVariants.{Row}
use Rattle.sr_base.specs.declared.shape.Shape.{Shape}
use Rattle.sr_base.specs.declared.vip_word.Phase.{Phase}
use Rattle.sr_base.specs.declared.vip_word.Phase.TheVariants.{Steady, Recording, Holding, Transit}
use Rattle.sr_shadow.specs.Book.{entry_for, first_retirable}
use Rattle.sr_shadow.specs.Entry.{is_pending}
use Rattle.sr_shadow.specs.Plan.{first_plan}
use Rattle.sr_shadow.specs.declared.entry.Entry.{Entry}
use Rattle.sr_shadow.specs.declared.plan.Plan.{Plan}
use Rattle.sr_shadow.specs.declared.plan.Plan.TheVariants as plan
use Rattle.sr_machine.specs.Config.{Config}
use Rattle.sr_machine.specs.Deciding.{vip_at}
use Rattle.sr_update.specs.Numbers.{first_drained, least_free}
use Rattle.sr_update.specs.Updates.{has_come}
use Rattle.sr_update.specs.Waits.{first_before_finish, first_before_hold}
use Rattle.sr_machine.specs.declared.controller_view.ControllerView.{ControllerView}
use Rattle.sr_machine.specs.declared.draw.Draw.TheVariants as draw
use Rattle.sr_machine.specs.declared.held_opener.HeldOpener.{HeldOpener}
use Rattle.sr_machine.specs.declared.job.Job.{Job}
use Rattle.sr_machine.specs.declared.job.Job.TheVariants.{Free, Draw, Store, Look}
use Rattle.sr_machine.specs.declared.outage.Outage.{Outage}
use Rattle.sr_update.specs.declared.give_change.GiveChange.{GiveChange}
use Rattle.sr_machine.specs.declared.put.Aim.{Aim}
use Rattle.sr_machine.specs.declared.put.Aim.TheVariants as aim
use Rattle.sr_machine.specs.declared.put.Put.{Put}
use Rattle.sr_machine.specs.declared.store.Store.TheVariants as store
use Rattle.sr_machine.specs.declared.pool_update.PoolUpdate.{PoolUpdate}
use Rattle.sr_machine.specs.declared.wait.Wait.TheVariants as wait

-- What a beginning decides: the job, and what else it changes.
pub record Start : Type 0 where
  pub gives : List GiveChange
  pub outages : List Outage
  pub refusing : Bool
  pub update : Option PoolUpdate
  pub mark : ℕ
  pub job : Job

-- only the job changes
abbrev pub with_job : ControllerView → Job → Start
with_job c j = record { gives = c.gives; outages = c.outages; refusing = c.refusing; update = c.update; mark = c.mark; job = j }

-- ---- a refusal

-- the first change of a pool is dropped, and refused
abbrev pub refusal_start : ControllerView → GiveChange → List GiveChange → Start
refusal_start c g rest = record (with_job c (Draw (draw.Refused g.position))) { gives = rest; refusing = false }

abbrev pub refusal_of : ControllerView → Bool → List GiveChange → Option Start
refusal_of c true (g ∷ rest) = Some (refusal_start c g rest)
refusal_of c refusing gives = None

abbrev pub refusal_act : ControllerView → Option Start
refusal_act c = refusal_of c c.refusing c.gives

-- ---- a server is taken down

-- the first server that is still to be taken down is
abbrev pub outage_start : ControllerView → Outage → List Outage → Start
outage_start c o rest = record (with_job c (Draw (draw.TakenDown o.server))) { outages = rest }

abbrev pub outage_of : ControllerView → List Outage → Option Start
outage_of c [] = None
outage_of c (o ∷ rest) = if has_come o.at_ms c.clock then Some (outage_start c o rest) else None

abbrev pub outage_act : ControllerView → Option Start
outage_act c = outage_of c c.outages

-- ---- an update

-- the update in a placing goes on once it waits for nothing
abbrev pub going_on : ControllerView → PoolUpdate → Phase → Option Job
going_on c u Steady = None
going_on c u Recording =
    if is_none (first_before_hold u.vip c.mark c.book.entries) then Some (Draw (draw.Comes u Holding)) else None
going_on c u Holding = None
going_on c u Transit =
    if is_none (first_before_finish u.vip u.replaced c.book.entries) then Some (Store (store.Vip u Steady)) else None

-- the update that gives a virtual address this pool under this number
abbrev pub update_to : ControllerView → GiveChange → ℕ → PoolUpdate
update_to c g number = record { vip = g.vip; replaced = (vip_at c.vips g.vip).cur; given = number; pool = g.pool }

-- it begins with the first server of its pool
abbrev pub beginning : ControllerView → List GiveChange → PoolUpdate → Start
beginning c rest u = record (with_job c (Store (store.Member u 0))) { gives = rest; update = Some u; mark = 0 }

-- the first change of a pool begins where it is due and its virtual address has a free number
abbrev pub change_of : ControllerView → List GiveChange → Option Start
change_of c [] = None
change_of c (g ∷ rest) =
    if has_come g.at_ms c.clock then
    option_map (λ number. beginning c rest (update_to c g number)) (least_free g.vip c.numbers) else None

abbrev pub update_of : ControllerView → Option PoolUpdate → Option Start
update_of c None = change_of c c.gives
update_of c (Some u) = option_map (with_job c) (going_on c u (vip_at c.vips u.vip).phase)

abbrev pub update_act : ControllerView → Option Start
update_act c = update_of c c.update

-- ---- a key is put into a place

-- what a plan of a key puts where, for this aim; a move puts its entry first
abbrev pub put_of : KeyView → Aim → Plan → Option Put
put_of key what (plan.Slot place) = Some (record { key = key; place = place; aim = what })
put_of key what (plan.Move other from to last) = Some (record { key = other; place = to; aim = aim.Move from key })
put_of key what (plan.FullKey row) = Some (record { key = key; place = Row row; aim = what })
put_of key what plan.NoRoom = None

abbrev pub planned_put : Shape → List Entry → KeyView → Aim → Option Put
planned_put shape entries key what = put_of key what (first_plan shape entries key)

-- a held opener: one of a registered key is answered; the key of another one is placed first, and without a place it is answered
-- so
abbrev pub opener_job : HeldOpener → Option Entry → Option Put → Job
opener_job h (Some e) p = Draw (draw.Answer (record { held = h; version = Some e.version }))
opener_job h None (Some p) = Draw (draw.Reserved p)
opener_job h None None = Draw (draw.Answer (record { held = h; version = None }))

abbrev pub opener_of : Config → ControllerView → List HeldOpener → Option Start
opener_of k c [] = None
opener_of k c (h ∷ rest) =
    Some (with_job c (opener_job h (entry_for h.key c.book.entries)
    (planned_put k.layout.shape c.book.entries h.key (aim.Held h))))

abbrev pub opener_act : Config → ControllerView → Option Start
opener_act k c = opener_of k c c.held

-- the put of an entry's key, where it is pending and has a plan
abbrev pub pending_put : Shape → List Entry → Entry → Option Put
pending_put shape entries e = if is_pending e then planned_put shape entries e.key aim.Pending else None

-- the first put of one of these
abbrev pub first_put : Shape → List Entry → List Entry → Option Put
first_put shape entries [] = None
first_put shape entries (e ∷ rest) = option_or (pending_put shape entries e) (first_put shape entries rest)

abbrev pub pending_act : Config → ControllerView → Option Start
pending_act k c = option_map (λ p. with_job c (Draw (draw.Reserved p))) (first_put k.layout.shape c.book.entries c.book.entries)

-- ---- a connection is over

abbrev pub retirement : Entry → Option Job
retirement e = option_map (λ place. Draw (draw.Retired e.key place e.version)) e.place

abbrev pub retire_act : Config → ControllerView → Option Start
retire_act k c = option_map (with_job c) (option_and_then retirement (first_retirable k.layout.shape.lives c.book.entries))

-- ---- a sweep

abbrev pub sweep_of : Shape → ControllerView → Option ℕ → Option Start
sweep_of shape c None = None
sweep_of shape c (Some ms) = if nat_le (c.swept_ms + shape.idle_ms) ms then Some (with_job c (Draw (draw.From ms))) else None

abbrev pub sweep_act : Config → ControllerView → Option Start
sweep_act k c = sweep_of k.layout.shape c c.clock

-- ---- a number is released

abbrev pub release_act : ControllerView → Option Start
release_act c = option_map (λ p. with_job c (Draw (draw.Grace (wait.Release p.0 p.1)))) (first_drained c.numbers c.book.entries)

-- ---- the first that applies

-- where none does, the rings are looked at
unfoldable pub first_act : Config → ControllerView → Start
first_act k c =
    unwrap_or
    (option_or (refusal_act c)
    (option_or (outage_act c)
    (option_or (update_act c)
    (option_or (opener_act k c)
    (option_or (pending_act k c)
    (option_or (retire_act k c)
    (option_or (sweep_act k c) (release_act c))))))))
    (with_job c (Look 0))

-- a job that is set goes on
abbrev pub start_by : Config → ControllerView → Job → Start
start_by k c Free = first_act k c
start_by k c j = with_job c j

abbrev pub start_of : Config → ControllerView → Start
start_of k c = start_by k c c.job

-- the view with what is decided
abbrev pub with_start : ControllerView → Start → ControllerView
with_start c s =
    record c { gives = s.gives; outages = s.outages; refusing = s.refusing; update = s.update; mark = s.mark; job = s.job }

-- the view with its next act's first job, where none was set. It makes no step, so what is told before the step counts for it.
abbrev pub begun : Config → ControllerView → ControllerView
begun k c = with_start c (start_of k c)
