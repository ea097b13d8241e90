-- Words that are taken, and what a wait was for, keep what the job stands on.
use Rattle.std.proofs.Common.{◌≡◌, ℕ, true, false, List, is_some, if◌then◌else◌, Some, None, Option, option_map, unwrap_or, sym, refl, ap, ◌∙◌, subst}
use Rattle.std.specs.Option.{option_or}
use Rattle.sr_base.proofs.Sameness.{same_key-self}
use Rattle.sr_base.specs.Key.{KeyView, same_key}
use Rattle.sr_base.specs.declared.vip_word.Phase.{Phase}
use Rattle.sr_base.specs.declared.vip_word.Phase.TheVariants.{Steady, Recording, Holding, Transit}
use Rattle.sr_inv_facts.proofs.Books.{found_key}
use Rattle.sr_inv_facts.proofs.Entries.{Succeeds, succeeds_take}
use Rattle.sr_inv_facts.proofs.Taking.{Takes}
use Rattle.sr_inv_facts.specs.Doing.{OnJudge, OnLived}
use Rattle.sr_inv_facts.specs.InJobs.{AnswerNames, IsFirst, JobHolds, JobsHold, LiveAim, LiveHolds, PutHolds, Seen, StandsAt, job_taking, leaving, leaving_by, seen}
use Rattle.sr_inv_jobs.proofs.JobGoes.{as_placed, goes_on}
use Rattle.sr_inv_jobs.proofs.Standing.{first_taken, live_follows, put_follows}
use Rattle.sr_standing.proofs.StandingTakes.{also_taken, quiet_wait}
use Rattle.sr_law.specs.declared.line.Line.{Line}
use Rattle.sr_machine.specs.Config.{Config}
use Rattle.sr_machine.specs.Deciding.{learned, version_for, ring_count}
use Rattle.sr_machine.specs.Taking.{Taken}
use Rattle.sr_machine.specs.Waiting.{live_job, waited_job, waited_phase}
use Rattle.sr_machine.specs.declared.controller_view.ControllerView.{ControllerView}
use Rattle.sr_machine.specs.declared.held_opener.HeldOpener.{HeldOpener}
use Rattle.sr_machine.specs.declared.job.Job.{Job}
use Rattle.sr_machine.specs.declared.pool_update.PoolUpdate.{PoolUpdate}
use Rattle.sr_machine.specs.declared.put.Aim.{Aim}
use Rattle.sr_machine.specs.declared.put.Put.{Put}
use Rattle.sr_machine.specs.declared.wait.Wait.{Wait}
use Rattle.sr_shadow.specs.Book.{entry_for, is_registered}
use Rattle.sr_shadow.specs.Entry.{is_of}
use Rattle.sr_update.proofs.Dues.{all_find}
use Rattle.sr_machine.specs.declared.draw.Draw.TheVariants as draw
use Rattle.sr_machine.specs.declared.store.Store.TheVariants as store
use Rattle.sr_machine.specs.declared.wait.Wait.TheVariants as wait
use Rattle.sr_machine.specs.declared.why.Why.TheVariants as why
use Rattle.sr_machine.specs.declared.put.Aim.TheVariants as aim
use Rattle.sr_machine.specs.declared.job.Job.TheVariants as job

-- ---- the book and the held openers after a take

module _ (k : Config) (c : ControllerView) (x : ℕ) (lines : List Line) (ended : Option KeyView) (pipe : ℕ) (t : Taken) (is : Takes k c ended pipe x t) where
  -- what is seen after the take
  abbrev pub taken_seen : Seen
  taken_seen = record (seen c) { entries = t.book.entries; held = t.held }

  succeeds : Succeeds c.book.entries t.book.entries
  succeeds = succeeds_take k.layout c.numbers ended x c.book t.book is.book

  pub take_on : (j : Job) → JobsHold k (seen c) j lines
      → ((key : KeyView) → is_registered key c.book.entries ≡ false → leaving j key ≡ None)
      → JobHolds k taken_seen lines j
      → JobsHold k taken_seen j lines
  take_on j h quiet stands = record {
    once = succeeds.once h.once;
    also = also_taken k.layout c.numbers ended x c.book t.book j quiet is.book h.also;
    stands = stands;
    places = λ q. h.places q ∙ ap (λ o. option_or (job_taking j q) (as_placed o)) (sym (succeeds.holders q));
    downs = h.downs;
  }

  first_held : (h : HeldOpener) → IsFirst h c.held → IsFirst h t.held
  first_held = first_taken k.layout pipe (ring_count c.rings pipe).punts x c.held t.held is.held

  wait_stands : (w : Wait) → OnJudge w (PutHolds k.layout.shape c.book.entries c.held) × OnLived w (LiveHolds c.book.entries c.held)
      → OnJudge w (PutHolds k.layout.shape t.book.entries t.held) × OnLived w (LiveHolds t.book.entries t.held)
  wait_stands (wait.Judge p) h = (put_follows k.layout.shape c.book.entries t.book.entries c.held t.held succeeds first_held p h.0, tt)
  wait_stands (wait.Live p) h = (tt, live_follows k.layout.shape c.book.entries t.book.entries c.held t.held succeeds first_held p h.1)
  wait_stands (wait.Retire key) h = h
  wait_stands (wait.Comes u p) h = h
  wait_stands (wait.Release vip n) h = h

  -- what was made live stands at its place
  lived_stands : (w : Wait) → OnLived w (LiveHolds c.book.entries c.held) → OnLived w (λ p. StandsAt p.key p.place c.book.entries)
  lived_stands (wait.Judge p) h = h
  lived_stands (wait.Live p) h = h.stands
  lived_stands (wait.Retire key) h = h
  lived_stands (wait.Comes u p) h = h
  lived_stands (wait.Release vip n) h = h

  -- the wait goes on over what was taken
  pub drain_on : (count : ℕ) (w : Wait) → JobsHold k (seen c) (job.Drain pipe count w) lines
      → JobsHold k taken_seen (job.Drain pipe count w) lines
  drain_on count w h = take_on (job.Drain pipe count w) h (quiet_wait c.book.entries w (lived_stands w h.stands.1)) (wait_stands w h.stands)

  pub look_on : (at : ℕ) → JobsHold k (seen c) (job.Look at) lines → JobsHold k taken_seen (job.Look at) lines
  look_on at h = take_on (job.Look at) h (λ key e. refl) (tt, tt)

-- ---- what a wait was for

module _ (k : Config) (s : Seen) (lines : List Line) (pipe count : ℕ) where
  live_on : (p : Put) (a : Aim) → p.aim ≡ a → JobsHold k s (job.Drain pipe count (wait.Live p)) lines
      → JobsHold k s (live_job s.vips s.entries p a) lines
  live_on p aim.Pending q h =
      goes_on k s lines (job.Drain pipe count (wait.Live p)) job.Free h (λ key. sym (ap (leaving_by key p) q)) (tt, tt) (λ z. refl)
  live_on p (aim.Held o) q h =
      let m = h.stands.1 in
      let first : IsFirst o s.held × (p.key ≡ o.key) = subst (LiveAim s.held p) q m.aim in
      let e = m.stands.0 in
      let found : entry_for o.key s.entries ≡ Some e = ap (λ z. entry_for z s.entries) (sym first.1) ∙ m.stands.1 in
      let version : version_for s.vips s.entries p.key ≡ e.version =
      ap (λ r. unwrap_or (option_map (λ e. e.version) r) (learned s.vips p.key.vip)) m.stands.1 in
      goes_on k s lines (job.Drain pipe count (wait.Live p)) (job.Draw (draw.Answer (record { held = o; version = Some (version_for s.vips s.entries p.key) }))) h (λ key. sym (ap (leaving_by key p) q))
      (record {
        first = first.0;
        names = subst (λ r. AnswerNames k s (record { held = o; version = Some (version_for s.vips s.entries p.key) }) r (Some (version_for s.vips s.entries p.key))) (sym found) (ap Some version);
      }) (λ z. refl)
  live_on p (aim.Move from planned) q h =
      let m = h.stands.1 in
      let e = m.stands.0 in
      let also : e.also ≡ leaving_by e.key p p.aim =
      all_find (λ e. e.also ≡ leaving_by e.key p p.aim) (is_of p.key) s.entries e h.also m.stands.1 in
      let own : same_key p.key e.key ≡ true = ap (same_key p.key) (sym (found_key p.key s.entries e m.stands.1)) ∙ same_key-self p.key in
      goes_on k s lines (job.Drain pipe count (wait.Live p)) (job.Store (store.Empty p.key from why.Source)) h (λ key. sym (ap (leaving_by key p) q))
      (e, m.stands.1, ap is_some m.stands.2, also ∙ (ap (leaving_by e.key p) q ∙ ap (λ b. if b then Some from else None) own)) (λ z. refl)

  waited_phase_on : (u : PoolUpdate) (p : Phase) → JobsHold k s (job.Drain pipe count (wait.Comes u p)) lines
      → JobsHold k s (waited_phase u p) lines
  waited_phase_on u Steady h =
      goes_on k s lines (job.Drain pipe count (wait.Comes u Steady)) (waited_phase u Steady) h (λ key. refl) (tt, tt) (λ z. refl)
  waited_phase_on u Recording h =
      goes_on k s lines (job.Drain pipe count (wait.Comes u Recording)) (waited_phase u Recording) h (λ key. refl) (tt, tt) (λ z. refl)
  waited_phase_on u Holding h =
      goes_on k s lines (job.Drain pipe count (wait.Comes u Holding)) (waited_phase u Holding) h (λ key. refl) (tt, tt) (λ z. refl)
  waited_phase_on u Transit h =
      goes_on k s lines (job.Drain pipe count (wait.Comes u Transit)) (waited_phase u Transit) h (λ key. refl) (tt, tt) (λ z. refl)

  pub waited_on : (w : Wait) → JobsHold k s (job.Drain pipe count w) lines → JobsHold k s (waited_job s.vips s.entries w) lines
  waited_on (wait.Judge p) h = goes_on k s lines (job.Drain pipe count (wait.Judge p)) (job.Store (store.Judge p)) h (λ key. refl) h.stands (λ z. refl)
  waited_on (wait.Live p) h = live_on p p.aim refl h
  waited_on (wait.Retire key) h = goes_on k s lines (job.Drain pipe count (wait.Retire key)) job.Free h (λ key. refl) (tt, tt) (λ z. refl)
  waited_on (wait.Comes u p) h = waited_phase_on u p h
  waited_on (wait.Release vip n) h = goes_on k s lines (job.Drain pipe count (wait.Release vip n)) job.Free h (λ key. refl) (tt, tt) (λ z. refl)
