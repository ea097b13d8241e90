-- Each step keeps how the entries stand to the job.
use Rattle.std.proofs.Common.{◌≡◌, ℕ, ◌+◌, Bool, true, false, ◌&&◌, List, not, if◌then◌else◌, nat_le, Some, None, sym, refl, ap, ◌∙◌, subst}
use Rattle.std.proofs.lemmas.Bool.{and_parts}
use Rattle.std.specs.List.{AllByRecursion}
use Rattle.sr_base.specs.Key.{KeyView, same_key}
use Rattle.sr_base.specs.declared.place.Place.{Place}
use Rattle.sr_base.specs.declared.vip_word.Phase.{Phase}
use Rattle.sr_base.specs.declared.vip_word.Phase.TheVariants.{Steady, Recording, Holding, Transit}
use Rattle.sr_inv_facts.proofs.Beginning.{begun_by}
use Rattle.sr_inv_facts.proofs.Books.{changed_all, distinct_mapped, field_kept}
use Rattle.sr_inv_facts.proofs.Lists.{all_filtered}
use Rattle.sr_inv_facts.specs.InJobs.{leaving, leaving_by}
use Rattle.sr_machine.proofs.Following.{goes}
use Rattle.sr_machine.specs.Config.{Config}
use Rattle.sr_machine.specs.Controller.{begun_after, controller_after}
use Rattle.sr_machine.specs.Deciding.{dead_reply, is_withdrawn, version_for}
use Rattle.sr_machine.specs.Draws.{cleared_job, phase_job}
use Rattle.sr_machine.specs.Goes.{Goes, SweepsTo}
use Rattle.sr_machine.specs.Goes as go
use Rattle.sr_machine.specs.Jobs.{book_next, job_next, judged_book}
use Rattle.sr_machine.specs.Opening.{opening_controller}
use Rattle.sr_machine.specs.Reads.{read_flag}
use Rattle.sr_machine.specs.Starting.{begun}
use Rattle.sr_machine.specs.Stores.{vip_draw}
use Rattle.sr_machine.specs.Waiting.{all_passed, live_job, passed_phase, waited_job, waited_phase}
use Rattle.sr_machine.specs.declared.controller_view.ControllerView.{ControllerView}
use Rattle.sr_machine.specs.declared.draw.Draw.TheVariants as draw
use Rattle.sr_machine.specs.declared.job.Job.{Job}
use Rattle.sr_machine.specs.declared.job.Job.TheVariants as job
use Rattle.sr_machine.specs.declared.pool_update.PoolUpdate.{PoolUpdate}
use Rattle.sr_machine.specs.declared.put.Aim.{Aim}
use Rattle.sr_machine.specs.declared.put.Aim.TheVariants as aim
use Rattle.sr_machine.specs.declared.put.Put.{Put}
use Rattle.sr_machine.specs.declared.store.Store.TheVariants as store
use Rattle.sr_machine.specs.declared.wait.Wait.{Wait}
use Rattle.sr_machine.specs.declared.wait.Wait.TheVariants as wait
use Rattle.sr_machine.specs.declared.why.Why.{Why}
use Rattle.sr_machine.specs.declared.why.Why.TheVariants as why
use Rattle.sr_shadow.proofs.Finding.{found_passes}
use Rattle.sr_shadow.proofs.Holding.{found_own}
use Rattle.sr_shadow.specs.Book.{CanSweep, DistinctKeys, HeldOnce, placed_from, with_changed}
use Rattle.sr_shadow.specs.Entry.{is_of, is_placed, left_other, swept}
use Rattle.sr_shadow.specs.declared.entry.Entry.{Entry}
use Rattle.sr_standing.proofs.Judging.{judged_book_is}
use Rattle.sr_standing.proofs.StandingBegins.{stands_on, start_stands}
use Rattle.sr_standing.proofs.StandingTakes.{drain_stands, look_stands}
use Rattle.sr_standing.specs.Standing.{Standing, Stands}

-- a sweep comes to a placed key
swept_to : (es : List Entry) (from : ℕ) (e : Entry) (place : Place) → DistinctKeys es → SweepsTo e place (placed_from from es) → CanSweep e.key es
swept_to es from e place d s = (
  e,
  found_own (λ e. nat_le from e.taken && is_placed e) es e d s.found,
  (and_parts (nat_le from e.taken) (is_placed e) (found_passes (λ e. nat_le from e.taken && is_placed e) es e s.found)).1,
)

-- ---- steps that leave the book alone

module _ (es : List Entry) where
  comes_on : (u : PoolUpdate) (p : Phase) → Standing es (job.Draw (draw.Comes u p)) → Standing es (phase_job u p)
  comes_on u Steady h = stands_on es (job.Draw (draw.Comes u Steady)) (phase_job u Steady) h (λ z. refl) tt tt tt
  comes_on u Recording h = stands_on es (job.Draw (draw.Comes u Recording)) (phase_job u Recording) h (λ z. refl) tt tt tt
  comes_on u Holding h = stands_on es (job.Draw (draw.Comes u Holding)) (phase_job u Holding) h (λ z. refl) tt tt tt
  comes_on u Transit h = stands_on es (job.Draw (draw.Comes u Transit)) (phase_job u Transit) h (λ z. refl) tt tt tt

  cleared_on : (key : KeyView) (place : Place) (w : Why) → Standing es (job.Draw (draw.Cleared key place w)) → Standing es (cleared_job key w)
  cleared_on key place (why.Withdrawn None) h =
      stands_on es (job.Draw (draw.Cleared key place (why.Withdrawn None))) job.Free h (λ z. refl) tt tt tt
  cleared_on key place (why.Withdrawn (Some r)) h =
      stands_on es (job.Draw (draw.Cleared key place (why.Withdrawn (Some r)))) (job.Draw (draw.Answer r)) h (λ z. refl) tt tt tt
  cleared_on key place why.Source h = stands_on es (job.Draw (draw.Cleared key place why.Source)) job.Free h (λ z. refl) tt tt tt
  cleared_on key place (why.Retired n) h =
      stands_on es (job.Draw (draw.Cleared key place (why.Retired n))) (job.Draw (draw.Grace (wait.Retire key))) h (λ z. refl) tt tt tt

  stored_on : (u : PoolUpdate) (p : Phase) → Standing es (job.Store (store.Vip u p)) → Standing es (job.Draw (vip_draw u p))
  stored_on u Steady h = stands_on es (job.Store (store.Vip u Steady)) (job.Draw (vip_draw u Steady)) h (λ z. refl) tt tt tt
  stored_on u Recording h = stands_on es (job.Store (store.Vip u Recording)) (job.Draw (vip_draw u Recording)) h (λ z. refl) tt tt tt
  stored_on u Holding h = stands_on es (job.Store (store.Vip u Holding)) (job.Draw (vip_draw u Holding)) h (λ z. refl) tt tt tt
  stored_on u Transit h = stands_on es (job.Store (store.Vip u Transit)) (job.Draw (vip_draw u Transit)) h (λ z. refl) tt tt tt

  phase_on : (g pipe : ℕ) (u : PoolUpdate) (p : Phase) → Standing es (job.Pass g pipe (wait.Comes u p)) → Standing es (passed_phase u p)
  phase_on g pipe u Steady h = stands_on es (job.Pass g pipe (wait.Comes u Steady)) (passed_phase u Steady) h (λ z. refl) tt tt tt
  phase_on g pipe u Recording h = stands_on es (job.Pass g pipe (wait.Comes u Recording)) (passed_phase u Recording) h (λ z. refl) tt tt tt
  phase_on g pipe u Holding h = stands_on es (job.Pass g pipe (wait.Comes u Holding)) (passed_phase u Holding) h (λ z. refl) tt tt tt
  phase_on g pipe u Transit h = stands_on es (job.Pass g pipe (wait.Comes u Transit)) (passed_phase u Transit) h (λ z. refl) tt tt tt

  passed_on : (g pipe : ℕ) (w : Wait) → Standing es (job.Pass g pipe w) → Standing es (all_passed w)
  passed_on g pipe (wait.Judge p) h = stands_on es (job.Pass g pipe (wait.Judge p)) (all_passed (wait.Judge p)) h (λ z. refl) h.put tt tt
  passed_on g pipe (wait.Live p) h = stands_on es (job.Pass g pipe (wait.Live p)) (all_passed (wait.Live p)) h (λ z. refl) tt h.live tt
  passed_on g pipe (wait.Retire key) h = stands_on es (job.Pass g pipe (wait.Retire key)) (all_passed (wait.Retire key)) h (λ z. refl) tt tt tt
  passed_on g pipe (wait.Comes u p) h = phase_on g pipe u p h
  passed_on g pipe (wait.Release vip n) h =
      stands_on es (job.Pass g pipe (wait.Release vip n)) (all_passed (wait.Release vip n)) h (λ z. refl) tt tt tt

-- what a wait was for
module _ (k : Config) (c : ControllerView) (es : List Entry) (pipe count : ℕ) where
  live_on : (p : Put) (a : Aim) → p.aim ≡ a → Standing es (job.Drain pipe count (wait.Live p)) → Standing es (live_job c.vips es p a)
  live_on p aim.Pending q h =
      stands_on es (job.Drain pipe count (wait.Live p)) job.Free h (λ key. sym (ap (leaving_by key p) q)) tt tt tt
  live_on p (aim.Held o) q h =
      stands_on es (job.Drain pipe count (wait.Live p)) (job.Draw (draw.Answer (record { held = o; version = Some (version_for c.vips es p.key) }))) h (λ key. sym (ap (leaving_by key p) q)) tt tt tt
  live_on p (aim.Move from planned) q h =
      stands_on es (job.Drain pipe count (wait.Live p)) (job.Store (store.Empty p.key from why.Source)) h (λ key. sym (ap (leaving_by key p) q)) tt tt tt

  phase_waited : (u : PoolUpdate) (p : Phase) → Standing es (job.Drain pipe count (wait.Comes u p)) → Standing es (waited_phase u p)
  phase_waited u Steady h = stands_on es (job.Drain pipe count (wait.Comes u Steady)) (waited_phase u Steady) h (λ z. refl) tt tt tt
  phase_waited u Recording h = stands_on es (job.Drain pipe count (wait.Comes u Recording)) (waited_phase u Recording) h (λ z. refl) tt tt tt
  phase_waited u Holding h = stands_on es (job.Drain pipe count (wait.Comes u Holding)) (waited_phase u Holding) h (λ z. refl) tt tt tt
  phase_waited u Transit h = stands_on es (job.Drain pipe count (wait.Comes u Transit)) (waited_phase u Transit) h (λ z. refl) tt tt tt

  waited_on : (w : Wait) → Standing es (job.Drain pipe count w) → Standing es (waited_job c.vips es w)
  waited_on (wait.Judge p) h = stands_on es (job.Drain pipe count (wait.Judge p)) (job.Store (store.Judge p)) h (λ z. refl) h.put tt tt
  waited_on (wait.Live p) h = live_on p p.aim refl h
  waited_on (wait.Retire key) h = stands_on es (job.Drain pipe count (wait.Retire key)) job.Free h (λ z. refl) tt tt tt
  waited_on (wait.Comes u p) h = phase_waited u p h
  waited_on (wait.Release vip n) h = stands_on es (job.Drain pipe count (wait.Release vip n)) job.Free h (λ z. refl) tt tt tt

-- ---- steps that change the book

left_also : (es : List Entry) (key : KeyView) (place : Place) (w : Why)
    → AllByRecursion (λ e. e.also ≡ leaving (job.Store (store.Empty key place w)) e.key) es
    → AllByRecursion (λ e. e.also ≡ None) (with_changed left_other key es)
left_also es key place (why.Withdrawn r) a = changed_all (λ e. e.also ≡ None) (λ e. e.also ≡ None) left_other key (λ e q b. refl) (λ e q b. b) es a
left_also es key place why.Source a =
    changed_all (λ e. e.also ≡ (if same_key key e.key then Some place else None)) (λ e. e.also ≡ None) left_other key (λ e q b. refl) (λ e q b. b ∙ ap (λ r. if r then Some place else None) q) es a
left_also es key place (why.Retired n) a = changed_all (λ e. e.also ≡ None) (λ e. e.also ≡ None) left_other key (λ e q b. refl) (λ e q b. b) es a

module _ (k : Config) (c : ControllerView) (x : ℕ) (d : DistinctKeys c.book.entries) (once : HeldOnce c.book.entries) where
  swept_distinct : (hit : Bool) (key : KeyView) → DistinctKeys (with_changed (swept hit) key c.book.entries)
  swept_distinct hit key =
      distinct_mapped (λ e. if is_of key e then swept hit e else e) (field_kept (λ e. e.key) (swept hit) (λ e. refl) key) (field_kept (λ e. e.taken) (swept hit) (λ e. refl) key) c.book.entries d

  judged_stands : (p : Put) (w : Bool) → is_withdrawn k c p ≡ w → Standing c.book.entries (job.Store (store.Judge p))
      → Standing (judged_book w p (version_for c.vips c.book.entries p.key) c.book).entries (if w then job.Draw (draw.Cleared p.key p.place (why.Withdrawn (dead_reply k c p.aim))) else job.Draw (draw.Placed p))
  judged_stands p true e h =
      stands_on c.book.entries (job.Store (store.Judge p)) (job.Draw (draw.Cleared p.key p.place (why.Withdrawn (dead_reply k c p.aim)))) h (λ z. refl) tt tt tt
  judged_stands p false e h =
      let t = judged_book_is c.book p h.put d once h.also (version_for c.vips c.book.entries p.key) in
      record { also = t.also; put = tt; live = t.stands; hit = tt }

  goes_stands : (j m : Job) → Goes k c x j m → Standing c.book.entries j → Standing (book_next k c j x).entries m
  goes_stands j m go.stays_free h = h
  goes_stands j m (go.waits w) h = stands_on c.book.entries (job.Draw (draw.Grace w)) (job.Pass x 0 w) h (λ z. refl) h.put h.live tt
  goes_stands j m (go.refused n) h = stands_on c.book.entries (job.Draw (draw.Refused n)) job.Free h (λ z. refl) tt tt tt
  goes_stands j m (go.taken_down n) h = stands_on c.book.entries (job.Draw (draw.TakenDown n)) (job.Store (store.Down n)) h (λ z. refl) tt tt tt
  goes_stands j m (go.given u) h = stands_on c.book.entries (job.Draw (draw.Given u)) (job.Draw (draw.Comes u Recording)) h (λ z. refl) tt tt tt
  goes_stands j m (go.comes u p) h = comes_on c.book.entries u p h
  goes_stands j m (go.reserved p) h = stands_on c.book.entries (job.Draw (draw.Reserved p)) (job.Store (store.Reserved p)) h (λ z. refl) h.put tt tt
  goes_stands j m (go.placed p) h = stands_on c.book.entries (job.Draw (draw.Placed p)) (job.Draw (draw.Grace (wait.Live p))) h (λ z. refl) tt h.live tt
  goes_stands j m (go.cleared key place w) h = cleared_on c.book.entries key place w h
  goes_stands j m (go.retired key place n) h = record {
    also = all_filtered (λ e. e.also ≡ None) (λ e. not (is_of key e)) c.book.entries h.also;
    put = tt;
    live = tt;
    hit = tt;
  }
  goes_stands j m (go.answered r) h = stands_on c.book.entries (job.Draw (draw.Answer r)) job.Free h (λ z. refl) tt tt tt
  goes_stands j m (go.sweep_begins ms e place s) h =
      stands_on c.book.entries (job.Draw (draw.From ms)) (job.Hit x ms e.key place e.taken) h (λ z. refl) tt tt (swept_to c.book.entries 0 e place d s)
  goes_stands j m (go.sweep_empty ms e) h = stands_on c.book.entries (job.Draw (draw.From ms)) (job.Draw (draw.Swept x ms)) h (λ z. refl) tt tt tt
  goes_stands j m (go.swept from ms) h = stands_on c.book.entries (job.Draw (draw.Swept from ms)) job.Free h (λ z. refl) tt tt tt
  goes_stands j m (go.downed n) h = stands_on c.book.entries (job.Store (store.Down n)) job.Free h (λ z. refl) tt tt tt
  goes_stands j m (go.member_next u n e) h =
      stands_on c.book.entries (job.Store (store.Member u n)) (job.Store (store.Member u (n + 1))) h (λ z. refl) tt tt tt
  goes_stands j m (go.member_last u n e) h = stands_on c.book.entries (job.Store (store.Member u n)) (job.Store (store.Head u)) h (λ z. refl) tt tt tt
  goes_stands j m (go.head u) h = stands_on c.book.entries (job.Store (store.Head u)) (job.Draw (draw.Given u)) h (λ z. refl) tt tt tt
  goes_stands j m (go.phase_stored u p) h = stored_on c.book.entries u p h
  goes_stands j m (go.filter_next u n e) h =
      stands_on c.book.entries (job.Store (store.Filter u n)) (job.Store (store.Filter u (n + 1))) h (λ z. refl) tt tt tt
  goes_stands j m (go.filter_last u n e) h = stands_on c.book.entries (job.Store (store.Filter u n)) job.Free h (λ z. refl) tt tt tt
  goes_stands j m (go.reserve_stored p) h =
      stands_on c.book.entries (job.Store (store.Reserved p)) (job.Draw (draw.Grace (wait.Judge p))) h (λ z. refl) h.put tt tt
  goes_stands j m (go.judged_live p e) h =
      subst (λ w. Standing (judged_book w p (version_for c.vips c.book.entries p.key) c.book).entries (job.Draw (draw.Placed p))) (sym e) (judged_stands p false e h)
  goes_stands j m (go.judged_withdrawn p e) h =
      subst (λ w. Standing (judged_book w p (version_for c.vips c.book.entries p.key) c.book).entries (job.Draw (draw.Cleared p.key p.place (why.Withdrawn (dead_reply k c p.aim))))) (sym e) (judged_stands p true e h)
  goes_stands j m (go.emptied key place w) h = record { also = left_also c.book.entries key place w h.also; put = tt; live = tt; hit = tt }
  goes_stands j m (go.pass_stays g pipe w e) h = h
  goes_stands j m (go.pass_next g pipe w e n) h =
      stands_on c.book.entries (job.Pass g pipe w) (job.Pass g (pipe + 1) w) h (λ z. refl) h.put h.live tt
  goes_stands j m (go.pass_last g pipe w e n) h = passed_on c.book.entries g pipe w h
  goes_stands j m (go.drain_stays pipe count w e) h =
      let u = drain_stands k c x pipe count w h in
      stands_on (book_next k c (job.Drain pipe count w) x).entries (job.Drain pipe count w) (job.Drain pipe (count + 1) w) u (λ z. refl) u.put u.live tt
  goes_stands j m (go.drain_next pipe count w e n) h =
      let u = drain_stands k c x pipe count w h in
      stands_on (book_next k c (job.Drain pipe count w) x).entries (job.Drain pipe count w) (job.Drain (pipe + 1) 0 w) u (λ z. refl) u.put u.live tt
  goes_stands j m (go.drain_last pipe count w e n) h =
      waited_on k c (book_next k c (job.Drain pipe count w) x).entries pipe count w (drain_stands k c x pipe count w h)
  goes_stands j m (go.look_next pipe e n) h =
      let u = look_stands k c x pipe pipe h in
      stands_on (book_next k c (job.Look pipe) x).entries (job.Look pipe) (job.Look (pipe + 1)) u (λ z. refl) tt tt tt
  goes_stands j m (go.look_last pipe e n) h =
      let u = look_stands k c x pipe pipe h in
      stands_on (book_next k c (job.Look pipe) x).entries (job.Look pipe) job.Free u (λ z. refl) tt tt tt
  goes_stands j m (go.look_took pipe e) h =
      let u = look_stands k c x pipe pipe h in
      stands_on (book_next k c (job.Look pipe) x).entries (job.Look pipe) job.Free u (λ z. refl) tt tt tt
  goes_stands j m (go.hit_next from ms key place n e at s) h = record {
    also = changed_all (λ e. e.also ≡ None) (λ e. e.also ≡ None) (swept (read_flag x)) key (λ e q a. a) (λ e q a. a) c.book.entries h.also;
    put = tt;
    live = tt;
    hit = swept_to (with_changed (swept (read_flag x)) key c.book.entries) (n + 1) e at (swept_distinct (read_flag x) key) s;
  }
  goes_stands j m (go.hit_last from ms key place n e) h = record {
    also = changed_all (λ e. e.also ≡ None) (λ e. e.also ≡ None) (swept (read_flag x)) key (λ e q a. a) (λ e q a. a) c.book.entries h.also;
    put = tt;
    live = tt;
    hit = tt;
  }

  -- a step of this job
  pub step_stands : (j : Job) → Standing c.book.entries j → Standing (book_next k c j x).entries (job_next k c j x)
  step_stands j h = goes_stands j (job_next k c j x) (goes k c x j) h

-- ---- all of them

pub begun_stands : (k : Config) (c : ControllerView) → DistinctKeys c.book.entries → Stands c → Stands (begun k c)
begun_stands k c d h = begun_by k c Stands h (λ q s b. start_stands k c d (subst (Standing c.book.entries) q h) s b)

pub set_stands : (k : Config) (c : ControllerView) (x : ℕ) → DistinctKeys c.book.entries → HeldOnce c.book.entries → Stands c → Stands (begun_after k c x)
set_stands k c x d once h = step_stands k c x d once c.job h

pub after_stands : (k : Config) (c : ControllerView) (x : ℕ) → DistinctKeys c.book.entries → HeldOnce c.book.entries → Stands c
    → Stands (controller_after k c x)
after_stands k c x d once h = set_stands k (begun k c) x d once (begun_stands k c d h)

pub opening_stands : (k : Config) → Stands (opening_controller k)
unfolding opening_controller
opening_stands k = record { also = tt; put = tt; live = tt; hit = tt }
