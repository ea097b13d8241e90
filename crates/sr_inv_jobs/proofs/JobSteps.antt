-- Each step of the controller keeps what its job stands on.
use Rattle.std.proofs.Common.{◌≡◌, ℕ, Bool, true, false, cond, not, ◌&&◌, ◌||◌, List, [], ◌∷◌, ◌++◌, is_some, IfSome, if◌then◌else◌, ◌==◌, slice_set, Some, None, Option, sym, refl, ap, ◌∙◌, subst, arith}
use Rattle.std.proofs.lemmas.Bool.Decides.{nat_tests}
use Rattle.std.proofs.lemmas.Option.{same_Some}
use Rattle.sr_base.specs.Key.{KeyView, same_key}
use Rattle.sr_base.specs.declared.place.Place.{Place}
use Rattle.sr_base.specs.declared.vip_word.Phase.{Phase}
use Rattle.sr_base.specs.declared.vip_word.Phase.TheVariants.{Steady, Recording, Holding, Transit}
use Rattle.sr_hash.specs.Uses.{is_place_of}
use Rattle.sr_inv_facts.proofs.Books.{changed_all, found_key}
use Rattle.sr_inv_facts.proofs.Lists.{all_filtered}
use Rattle.sr_inv_facts.proofs.Printing.{tells}
use Rattle.sr_inv_facts.specs.InJobs.{AimHolds, AnswerHolds, AnswerNames, ClearedHolds, IsDead, JobsHold, LiveAim, PutHolds, Seen, leaving, seen}
use Rattle.sr_inv_facts.specs.InShape.{BookFits, EntryFits, JobFits, PlaceFits}
use Rattle.sr_inv_jobs.proofs.JobGoes.{goes_on, moved, cleared_tells, down_more, else_tells, left_tells}
use Rattle.sr_inv_jobs.proofs.Standing.{left_book, put_stands, retired_book}
use Rattle.sr_standing.proofs.Judging.{judged_book_is}
use Rattle.sr_law.specs.Taken.{taken}
use Rattle.sr_law.specs.declared.line.Line.{Line}
use Rattle.sr_machine.specs.Config.{Config}
use Rattle.sr_machine.specs.Deciding.{is_down, is_withdrawn, learned, version_for, dead_reply, reply_if, server_for}
use Rattle.sr_machine.specs.Draws.{cleared_job, phase_job}
use Rattle.sr_machine.specs.Jobs.{job_after, judged_book}
use Rattle.sr_machine.specs.Stores.{phase_word, vip_draw}
use Rattle.sr_machine.specs.Waiting.{all_passed, passed_phase}
use Rattle.sr_machine.specs.declared.controller_view.ControllerView.{ControllerView}
use Rattle.sr_machine.specs.declared.job.Job.{Job}
use Rattle.sr_machine.specs.declared.pool_update.PoolUpdate.{PoolUpdate}
use Rattle.sr_machine.specs.declared.put.Aim.{Aim}
use Rattle.sr_machine.specs.declared.put.Put.{Put}
use Rattle.sr_machine.specs.declared.reply.Reply.{Reply}
use Rattle.sr_machine.specs.declared.wait.Wait.{Wait}
use Rattle.sr_machine.specs.declared.why.Why.{Why}
use Rattle.sr_shadow.proofs.Splits.{changed_none, entry_for_none}
use Rattle.sr_shadow.specs.Book.{entry_for, holder_of, is_registered, with_changed, without_key}
use Rattle.sr_shadow.specs.Entry.{left_other, is_of}
use Rattle.sr_shadow.specs.declared.entry.Entry.{Entry}
use Rattle.sr_update.proofs.Dues.{all_find}
use Rattle.sr_machine.specs.declared.draw.Draw.TheVariants as draw
use Rattle.sr_machine.specs.declared.store.Store.TheVariants as store
use Rattle.sr_machine.specs.declared.wait.Wait.TheVariants as wait
use Rattle.sr_machine.specs.declared.why.Why.TheVariants as why
use Rattle.sr_machine.specs.declared.put.Aim.TheVariants as aim
use Rattle.sr_machine.specs.declared.job.Job.TheVariants as job
use Rattle.sr_law.specs.declared.line.Line.TheVariants as line

gone : (key : KeyView) (es : List Entry) → is_registered key (without_key key es) ≡ false
gone key [] = refl
gone key (e ∷ es) = at (is_of key e) refl (gone key es)
  where
    at : (b : Bool) → is_of key e ≡ b → is_registered key (without_key key es) ≡ false
        → is_registered key (cond (not b) (e ∷ without_key key es) (without_key key es)) ≡ false
    at true q h = h
    at false q h = ap (λ a. a || is_registered key (without_key key es)) q ∙ h

pub last_down : (down : List ℕ) (server : ℕ) → is_down (down ++ server ∷ []) server ≡ true
last_down down server =
    let same : (server == server) ≡ true = grind (arith, nat_tests) in
    sym (down_more down server server) ∙ ap (λ b. b || is_down down server) same

module _ (k : Config) (c : ControllerView) (b : BookFits k.layout c.book) (x : ℕ) (lines : List Line) where
  -- what a step leaves
  abbrev pub After : Job → Job → Type 0
  After j m = JobsHold k (seen (job_after k c j x)) m (tells k c j x ++ lines)

  abbrev pub Before : Job → Type 0
  Before j = JobsHold k (seen c) j lines

  -- ---- draws

  pub comes : (u : PoolUpdate) (p : Phase) → Before (job.Draw (draw.Comes u p)) → After (job.Draw (draw.Comes u p)) (phase_job u p)
  comes u Steady h =
      moved k (seen c) lines (job.Draw (draw.Comes u Steady)) (phase_job u Steady) c.held c.vips c.named (line.Finished x u.vip ∷ lines) h (λ key. refl) (tt, tt) h.places (λ n. refl)
  comes u Recording h =
      moved k (seen c) lines (job.Draw (draw.Comes u Recording)) (phase_job u Recording) c.held c.vips c.named (line.Recorded x u.vip ∷ lines) h (λ key. refl) (tt, tt) h.places (λ n. refl)
  comes u Holding h =
      moved k (seen c) lines (job.Draw (draw.Comes u Holding)) (phase_job u Holding) c.held c.vips c.named (line.Hold x u.vip ∷ lines) h (λ key. refl) (tt, tt) h.places (λ n. refl)
  comes u Transit h =
      moved k (seen c) lines (job.Draw (draw.Comes u Transit)) (phase_job u Transit) c.held c.vips c.named (line.Switched x u.vip u.pool ∷ lines) h (λ key. refl) (tt, tt) h.places (λ n. refl)

  dead_answer : (r : Reply) (o : Option ℕ) → r.version ≡ o → IfSome o (λ n. IsDead k (seen c) r n) → is_some o ≡ true
      → AnswerHolds k (seen c) r
  dead_answer r None q d s = cc
  dead_answer r (Some n) q d s = record {
    first = d.first;
    names = subst (λ v. AnswerNames k (seen c) r (entry_for r.held.key c.book.entries) v) (sym q) (subst (λ e. AnswerNames k (seen c) r e (Some n)) (sym (entry_for_none r.held.key c.book.entries d.unregistered)) d);
  }

  pub cleared : (key : KeyView) (place : Place) (w : Why) → Before (job.Draw (draw.Cleared key place w))
      → After (job.Draw (draw.Cleared key place w)) (cleared_job key w)
  cleared key place (why.Withdrawn None) h =
      moved k (seen c) lines (job.Draw (draw.Cleared key place (why.Withdrawn None))) job.Free c.held c.vips c.named (line.Cleared x key place ∷ lines) h (λ z. refl) (tt, tt)
      (λ q. cleared_tells place key false (λ z. holder_of z c.book.entries) (taken lines q) q h.stands.0.free (h.places q)) (λ n. refl)
  cleared key place (why.Withdrawn (Some r)) h =
      moved k (seen c) lines (job.Draw (draw.Cleared key place (why.Withdrawn (Some r)))) (job.Draw (draw.Answer r)) c.held c.vips c.named (line.Cleared x key place ∷ lines) h (λ z. refl)
      (dead_answer r r.version refl h.stands.1.0 h.stands.1.1)
      (λ q. cleared_tells place key false (λ z. holder_of z c.book.entries) (taken lines q) q h.stands.0.free (h.places q)) (λ n. refl)
  cleared key place why.Source h =
      moved k (seen c) lines (job.Draw (draw.Cleared key place why.Source)) job.Free c.held c.vips c.named (line.Cleared x key place ∷ lines) h (λ z. refl) (tt, tt)
      (λ q. cleared_tells place key true (λ z. holder_of z c.book.entries) (taken lines q) q h.stands.0.free (h.places q)) (λ n. refl)
  cleared key place (why.Retired n) h =
      moved k (seen c) lines (job.Draw (draw.Cleared key place (why.Retired n))) (job.Draw (draw.Grace (wait.Retire key))) c.held c.vips c.named (line.Cleared x key place ∷ lines) h (λ z. refl) (tt, tt)
      (λ q. cleared_tells place key true (λ z. holder_of z c.book.entries) (taken lines q) q h.stands.0.free (h.places q)) (λ n. refl)

  pub retired : (key : KeyView) (place : Place) (n : ℕ) → Before (job.Draw (draw.Retired key place n))
      → After (job.Draw (draw.Retired key place n)) (job.Store (store.Empty key place (why.Retired n)))
  retired key place n h =
      let r = h.stands in
      let alone : r.entry.also ≡ None =
      all_find (λ e. e.also ≡ leaving (job.Draw (draw.Retired key place n)) e.key) (is_of key) c.book.entries r.entry h.also r.found in
      let t = retired_book c.book.entries key place r.entry b.distinct h.once r.found r.stands alone in
      let fits : EntryFits k.layout r.entry = all_find (EntryFits k.layout) (is_of key) c.book.entries r.entry b.entries r.found in
      record {
        once = t.once;
        also = all_filtered (λ e. e.also ≡ None) (λ e. not (is_of key e)) c.book.entries h.also;
        stands = (
          record {
            own = subst (λ z. is_place_of k.layout.shape z place ≡ true) (sym (found_key key c.book.entries r.entry r.found)) (subst (PlaceFits k.layout.shape r.entry.key) r.stands fits.place);
            free = t.free;
          },
          gone key c.book.entries,
        );
        places = λ q. h.places q ∙ left_tells place key (λ z. holder_of z c.book.entries) (λ z. holder_of z (without_key key c.book.entries)) q (t.holders q);
        downs = h.downs;
      }

  -- ---- stores

  pub phase_stored : (u : PoolUpdate) (p : Phase) → Before (job.Store (store.Vip u p)) → After (job.Store (store.Vip u p)) (job.Draw (vip_draw u p))
  phase_stored u Steady h =
      moved k (seen c) lines (job.Store (store.Vip u Steady)) (job.Draw (vip_draw u Steady)) c.held (slice_set c.vips u.vip (phase_word u Steady)) c.named lines h (λ z. refl) (tt, tt) h.places (λ n. refl)
  phase_stored u Recording h =
      moved k (seen c) lines (job.Store (store.Vip u Recording)) (job.Draw (vip_draw u Recording)) c.held (slice_set c.vips u.vip (phase_word u Recording)) c.named lines h (λ z. refl) (tt, tt) h.places (λ n. refl)
  phase_stored u Holding h =
      moved k (seen c) lines (job.Store (store.Vip u Holding)) (job.Draw (vip_draw u Holding)) c.held (slice_set c.vips u.vip (phase_word u Holding)) c.named lines h (λ z. refl) (tt, tt) h.places (λ n. refl)
  phase_stored u Transit h =
      moved k (seen c) lines (job.Store (store.Vip u Transit)) (job.Draw (vip_draw u Transit)) c.held (slice_set c.vips u.vip (phase_word u Transit)) c.named lines h (λ z. refl) (tt, tt) h.places (λ n. refl)

  live_aim : (p : Put) (a : Aim) → AimHolds c.book.entries c.held p a → LiveAim c.held p a
  live_aim p aim.Pending m = tt
  live_aim p (aim.Held o) m = (m.0, m.1)
  live_aim p (aim.Move from planned) m = m.1

  -- the entries after a put is judged so
  abbrev judged_seen : Put → Bool → Seen
  judged_seen p w = record (seen c) { entries = (judged_book w p (version_for c.vips c.book.entries p.key) c.book).entries }

  pub judged_live : (p : Put) → is_withdrawn k c p ≡ false → Before (job.Store (store.Judge p))
      → After (job.Store (store.Judge p)) (job.Draw (draw.Placed p))
  judged_live p e h =
      let put = h.stands.0 in
      let t = judged_book_is c.book p (put_stands k.layout.shape c.book.entries c.held p put) b.distinct h.once h.also (version_for c.vips c.book.entries p.key) in
      let new : JobsHold k (judged_seen p false) (job.Draw (draw.Placed p)) lines = record {
        once = t.once;
        also = t.also;
        stands = (tt, record { stands = t.stands; aim = live_aim p p.aim put.aim });
        places = λ q. h.places q ∙ else_tells p.place p.key (λ z. holder_of z c.book.entries) (λ z. holder_of z (judged_seen p false).entries) q (t.holders q);
        downs = h.downs;
      } in
      subst (λ w. JobsHold k (judged_seen p w) (job.Draw (draw.Placed p)) lines) (sym e) new

  dead_is : (a : Aim) (p : Put) → AimHolds c.book.entries c.held p a → (r : Reply) → dead_reply k c a ≡ Some r
      → IfSome r.version (λ n. IsDead k (seen c) r n) × (is_some r.version ≡ true)
  dead_is aim.Pending p m r e = cc
  dead_is (aim.Move from planned) p m r e = cc
  dead_is (aim.Held o) p m r e =
      at (is_registered o.key c.book.entries) (is_down c.down (server_for k c.named o.key (learned c.vips o.key.vip))) refl refl e
    where
      reply : Reply
      reply = record { held = o; version = Some (learned c.vips o.key.vip) }

      at : (g d : Bool) → is_registered o.key c.book.entries ≡ g → is_down c.down (server_for k c.named o.key (learned c.vips o.key.vip)) ≡ d
          → reply_if (not g && d) (record { held = o; version = Some (learned c.vips o.key.vip) }) ≡ Some r
          → IfSome r.version (λ n. IsDead k (seen c) r n) × (is_some r.version ≡ true)
      at true d q s f = cc
      at false false q s f = cc
      at false true q s f =
          subst (λ z. IfSome z.version (λ n. IsDead k (seen c) z n) × (is_some z.version ≡ true)) (same_Some (record { held = o; version = Some (learned c.vips o.key.vip) }) r f)
          (record { first = m.0; unregistered = q; next = refl; down = s }, refl)

  withdrawn_holds : (p : Put) → PutHolds k.layout.shape c.book.entries c.held p → (o : Option Reply) → dead_reply k c p.aim ≡ o
      → ClearedHolds k (seen c) p.key (why.Withdrawn o)
  withdrawn_holds p m None e = tt
  withdrawn_holds p m (Some r) e = dead_is p.aim p m.aim r e

  pub judged_withdrawn : (p : Put) → is_withdrawn k c p ≡ true → Before (job.Store (store.Judge p))
      → After (job.Store (store.Judge p)) (job.Draw (draw.Cleared p.key p.place (why.Withdrawn (dead_reply k c p.aim))))
  judged_withdrawn p e h =
      let put = h.stands.0 in
      subst (λ w. JobsHold k (judged_seen p w) (job.Draw (draw.Cleared p.key p.place (why.Withdrawn (dead_reply k c p.aim)))) lines) (sym e)
      (goes_on k (seen c) lines (job.Store (store.Judge p)) (job.Draw (draw.Cleared p.key p.place (why.Withdrawn (dead_reply k c p.aim)))) h (λ z. refl)
      (record { own = put.own; free = put.free }, withdrawn_holds p put (dead_reply k c p.aim) refl) (λ q. refl))

  pub emptied : (key : KeyView) (place : Place) (w : Why) → JobFits k.layout (job.Store (store.Empty key place w))
      → Before (job.Store (store.Empty key place w))
      → After (job.Store (store.Empty key place w)) (job.Draw (draw.Cleared key place w))
  emptied key place (why.Withdrawn reply) f h = absurd f
  emptied key place why.Source f h =
      let e = h.stands.0 in
      let found = h.stands.1 in
      let t = left_book c.book.entries key place e b.distinct h.once found h.stands.3 in
      let fits : EntryFits k.layout e = all_find (EntryFits k.layout) (is_of key) c.book.entries e b.entries found in
      record {
        once = t.once;
        also = changed_all (λ e. e.also ≡ (if same_key key e.key then Some place else None)) (λ e. e.also ≡ None) left_other key (λ e q a. refl) (λ e q a. a ∙ ap (λ r. if r then Some place else None) q) c.book.entries h.also;
        stands = (
          record {
            own = subst (λ z. is_place_of k.layout.shape z place ≡ true) (sym (found_key key c.book.entries e found)) (subst (PlaceFits k.layout.shape e.key) h.stands.3 fits.also);
            free = t.free;
          },
          tt,
        );
        places = λ q. h.places q ∙ left_tells place key (λ z. holder_of z c.book.entries) (λ z. holder_of z (with_changed left_other key c.book.entries)) q (t.holders q);
        downs = h.downs;
      }
  emptied key place (why.Retired n) f h =
      let same : with_changed left_other key c.book.entries ≡ c.book.entries = changed_none left_other key c.book.entries h.stands.1 in
      subst (λ es. JobsHold k (record (seen c) { entries = es }) (job.Draw (draw.Cleared key place (why.Retired n))) lines) (sym same)
      (goes_on k (seen c) lines (job.Store (store.Empty key place (why.Retired n))) (job.Draw (draw.Cleared key place (why.Retired n))) h (λ z. refl) h.stands (λ q. refl))

  -- ---- waits

  passed_phase_on : (g pipe : ℕ) (u : PoolUpdate) (p : Phase) → Before (job.Pass g pipe (wait.Comes u p))
      → Before (passed_phase u p)
  passed_phase_on g pipe u Steady h =
      goes_on k (seen c) lines (job.Pass g pipe (wait.Comes u Steady)) (passed_phase u Steady) h (λ z. refl) (tt, tt) (λ q. refl)
  passed_phase_on g pipe u Recording h =
      goes_on k (seen c) lines (job.Pass g pipe (wait.Comes u Recording)) (passed_phase u Recording) h (λ z. refl) (tt, tt) (λ q. refl)
  passed_phase_on g pipe u Holding h =
      goes_on k (seen c) lines (job.Pass g pipe (wait.Comes u Holding)) (passed_phase u Holding) h (λ z. refl) (tt, tt) (λ q. refl)
  passed_phase_on g pipe u Transit h =
      goes_on k (seen c) lines (job.Pass g pipe (wait.Comes u Transit)) (passed_phase u Transit) h (λ z. refl) (tt, tt) (λ q. refl)

  pub passed_on : (g pipe : ℕ) (w : Wait) → Before (job.Pass g pipe w) → Before (all_passed w)
  passed_on g pipe (wait.Judge p) h = goes_on k (seen c) lines (job.Pass g pipe (wait.Judge p)) (all_passed (wait.Judge p)) h (λ z. refl) h.stands (λ q. refl)
  passed_on g pipe (wait.Live p) h = goes_on k (seen c) lines (job.Pass g pipe (wait.Live p)) (all_passed (wait.Live p)) h (λ z. refl) h.stands (λ q. refl)
  passed_on g pipe (wait.Retire key) h = goes_on k (seen c) lines (job.Pass g pipe (wait.Retire key)) (all_passed (wait.Retire key)) h (λ z. refl) (tt, tt) (λ q. refl)
  passed_on g pipe (wait.Comes u p) h = passed_phase_on g pipe u p h
  passed_on g pipe (wait.Release vip n) h = goes_on k (seen c) lines (job.Pass g pipe (wait.Release vip n)) (all_passed (wait.Release vip n)) h (λ z. refl) (tt, tt) (λ q. refl)
