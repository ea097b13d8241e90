-- Which job follows a step, as a list of cases: each with why it is that one. A proof that goes by these cases sees no test.
use Rattle.std.specs.Prelude.{◌≡◌, ℕ, ◌+◌, ◌==◌, true, false, Option, Some, None}
use Rattle.sr_base.specs.Key.{KeyView}
use Rattle.sr_base.specs.declared.place.Place.{Place}
use Rattle.sr_base.specs.declared.vip_word.Phase.{Phase}
use Rattle.sr_base.specs.declared.vip_word.Phase.TheVariants.{Recording}
use Rattle.sr_shadow.specs.Book.{placed_from}
use Rattle.sr_shadow.specs.declared.entry.Entry.{Entry}
use Rattle.sr_machine.specs.Config.{Config}
use Rattle.sr_machine.specs.Deciding.{dead_reply, is_withdrawn}
use Rattle.sr_machine.specs.Draws.{cleared_job, phase_job}
use Rattle.sr_machine.specs.Jobs.{book_next}
use Rattle.sr_machine.specs.Stores.{is_last_filter, is_last_member, vip_draw}
use Rattle.sr_machine.specs.Waiting.{all_passed, has_next, is_ring_done, is_under_way, waited_job}
use Rattle.sr_machine.specs.declared.controller_view.ControllerView.{ControllerView}
use Rattle.sr_machine.specs.declared.draw.Draw.TheVariants as draw
use Rattle.sr_machine.specs.declared.job.Job.{Job}
use Rattle.sr_machine.specs.declared.job.Job.TheVariants.{Free, Draw, Store, Pass, Drain, Look, Hit}
use Rattle.sr_machine.specs.declared.put.Put.{Put}
use Rattle.sr_machine.specs.declared.reply.Reply.{Reply}
use Rattle.sr_machine.specs.declared.store.Store.TheVariants as store
use Rattle.sr_machine.specs.declared.pool_update.PoolUpdate.{PoolUpdate}
use Rattle.sr_machine.specs.declared.wait.Wait.{Wait}
use Rattle.sr_machine.specs.declared.wait.Wait.TheVariants as wait
use Rattle.sr_machine.specs.declared.why.Why.{Why}
use Rattle.sr_machine.specs.declared.why.Why.TheVariants as why

-- the entry that a sweep comes to next
pub record SweepsTo (e : Entry) (place : Place) (next : Option Entry) : Type 0 where
  pub found : next ≡ Some e
  pub stands : e.place ≡ Some place

-- the job after a step of a controller with this view, which answered this
pub data Goes (k : Config) (c : ControllerView) (x : ℕ) : Job → Job → Type 0 where
  stays_free : Goes k c x Free Free
  -- draws
  waits : (w : Wait) → Goes k c x (Draw (draw.Grace w)) (Pass x 0 w)
  refused : (change : ℕ) → Goes k c x (Draw (draw.Refused change)) Free
  taken_down : (server : ℕ) → Goes k c x (Draw (draw.TakenDown server)) (Store (store.Down server))
  given : (u : PoolUpdate) → Goes k c x (Draw (draw.Given u)) (Draw (draw.Comes u Recording))
  comes : (u : PoolUpdate) (p : Phase) → Goes k c x (Draw (draw.Comes u p)) (phase_job u p)
  reserved : (p : Put) → Goes k c x (Draw (draw.Reserved p)) (Store (store.Reserved p))
  placed : (p : Put) → Goes k c x (Draw (draw.Placed p)) (Draw (draw.Grace (wait.Live p)))
  cleared : (key : KeyView) (place : Place) (w : Why) → Goes k c x (Draw (draw.Cleared key place w)) (cleared_job key w)
  retired : (key : KeyView) (place : Place) (version : ℕ)
      → Goes k c x (Draw (draw.Retired key place version)) (Store (store.Empty key place (why.Retired version)))
  answered : (r : Reply) → Goes k c x (Draw (draw.Answer r)) Free
  sweep_begins : (ms : ℕ) (e : Entry) (place : Place) → SweepsTo e place (placed_from 0 c.book.entries)
      → Goes k c x (Draw (draw.From ms)) (Hit x ms e.key place e.taken)
  sweep_empty : (ms : ℕ) → placed_from 0 c.book.entries ≡ None → Goes k c x (Draw (draw.From ms)) (Draw (draw.Swept x ms))
  swept : (from ms : ℕ) → Goes k c x (Draw (draw.Swept from ms)) Free
  -- stores
  downed : (server : ℕ) → Goes k c x (Store (store.Down server)) Free
  member_next : (u : PoolUpdate) (index : ℕ) → is_last_member k u index ≡ false
      → Goes k c x (Store (store.Member u index)) (Store (store.Member u (index + 1)))
  member_last : (u : PoolUpdate) (index : ℕ) → is_last_member k u index ≡ true
      → Goes k c x (Store (store.Member u index)) (Store (store.Head u))
  head : (u : PoolUpdate) → Goes k c x (Store (store.Head u)) (Draw (draw.Given u))
  phase_stored : (u : PoolUpdate) (p : Phase) → Goes k c x (Store (store.Vip u p)) (Draw (vip_draw u p))
  filter_next : (u : PoolUpdate) (index : ℕ) → is_last_filter k.layout index ≡ false
      → Goes k c x (Store (store.Filter u index)) (Store (store.Filter u (index + 1)))
  filter_last : (u : PoolUpdate) (index : ℕ) → is_last_filter k.layout index ≡ true
      → Goes k c x (Store (store.Filter u index)) Free
  reserve_stored : (p : Put) → Goes k c x (Store (store.Reserved p)) (Draw (draw.Grace (wait.Judge p)))
  judged_live : (p : Put) → is_withdrawn k c p ≡ false → Goes k c x (Store (store.Judge p)) (Draw (draw.Placed p))
  judged_withdrawn : (p : Put) → is_withdrawn k c p ≡ true
      → Goes k c x (Store (store.Judge p)) (Draw (draw.Cleared p.key p.place (why.Withdrawn (dead_reply k c p.aim))))
  emptied : (key : KeyView) (place : Place) (w : Why)
      → Goes k c x (Store (store.Empty key place w)) (Draw (draw.Cleared key place w))
  -- waits
  pass_stays : (g pipe : ℕ) (w : Wait) → is_under_way g x ≡ true → Goes k c x (Pass g pipe w) (Pass g pipe w)
  pass_next : (g pipe : ℕ) (w : Wait) → is_under_way g x ≡ false → has_next k.layout pipe ≡ true
      → Goes k c x (Pass g pipe w) (Pass g (pipe + 1) w)
  pass_last : (g pipe : ℕ) (w : Wait) → is_under_way g x ≡ false → has_next k.layout pipe ≡ false
      → Goes k c x (Pass g pipe w) (all_passed w)
  drain_stays : (pipe count : ℕ) (w : Wait) → is_ring_done k.layout count x ≡ false
      → Goes k c x (Drain pipe count w) (Drain pipe (count + 1) w)
  drain_next : (pipe count : ℕ) (w : Wait) → is_ring_done k.layout count x ≡ true → has_next k.layout pipe ≡ true
      → Goes k c x (Drain pipe count w) (Drain (pipe + 1) 0 w)
  drain_last : (pipe count : ℕ) (w : Wait) → is_ring_done k.layout count x ≡ true → has_next k.layout pipe ≡ false
      → Goes k c x (Drain pipe count w) (waited_job c.vips (book_next k c (Drain pipe count w) x).entries w)
  -- looks and sweeps
  look_next : (pipe : ℕ) → (x == 0) ≡ true → has_next k.layout pipe ≡ true → Goes k c x (Look pipe) (Look (pipe + 1))
  look_last : (pipe : ℕ) → (x == 0) ≡ true → has_next k.layout pipe ≡ false → Goes k c x (Look pipe) Free
  look_took : (pipe : ℕ) → (x == 0) ≡ false → Goes k c x (Look pipe) Free
  hit_next : (from ms : ℕ) (key : KeyView) (place : Place) (taken : ℕ) (e : Entry) (at : Place)
      → SweepsTo e at (placed_from (taken + 1) (book_next k c (Hit from ms key place taken) x).entries)
      → Goes k c x (Hit from ms key place taken) (Hit from ms e.key at e.taken)
  hit_last : (from ms : ℕ) (key : KeyView) (place : Place) (taken : ℕ)
      → placed_from (taken + 1) (book_next k c (Hit from ms key place taken) x).entries ≡ None
      → Goes k c x (Hit from ms key place taken) (Draw (draw.Swept from ms))
