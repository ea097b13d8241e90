-- A word that speaks to a key tells that the place is taken, by the lines, by a key that it clashes with.
use Rattle.std.proofs.Common.{◌≡◌, ℕ, ◌<◌, ◌||◌, not, Bool, true, false, List, if◌then◌else◌, Some, None, Option, option_map, unwrap_or, sym, refl, ap, ◌∙◌, subst}
use Rattle.std.proofs.lemmas.Option.{same_Some}
use Rattle.std.specs.Option.{option_or}
use Rattle.sr_base.proofs.Sameness.{same_place-true}
use Rattle.sr_base.specs.Key.{IsKey, KeyView}
use Rattle.sr_base.specs.Layout.{LayoutView}
use Rattle.sr_base.specs.Place.{same_place}
use Rattle.sr_base.specs.declared.place.Place.{Place}
use Rattle.sr_hash.specs.Uses.{is_place_of}
use Rattle.sr_inv_facts.proofs.Books.{found_key}
use Rattle.sr_inv_facts.proofs.FoundVersions.{used_below}
use Rattle.sr_inv_facts.proofs.Ranges.{PutFits, put_fits}
use Rattle.sr_inv_facts.specs.Doing.{OnJudge}
use Rattle.sr_inv_facts.specs.InCauses.{setup_of}
use Rattle.sr_inv_facts.specs.InFlight.{OnOver}
use Rattle.sr_inv_facts.specs.InJobs.{JobHolds, LiveHolds, PutHolds, book_taking, is_given_up, job_taking, judge_taking, seen, taking_at}
use Rattle.sr_inv_facts.specs.InShape.{EntryFits, PlaceFits}
use Rattle.sr_inv_facts.specs.InUpdate.{JobWaited}
use Rattle.sr_inv_facts.specs.InWords.{job_word, judged_place, put_word}
use Rattle.sr_inv_facts.specs.Invariant.{Invariant}
use Rattle.sr_inv_facts.specs.Readings.{Speaks}
use Rattle.sr_inv_matching.proofs.Saying.{at_held, empty_silent, holder_found, live_speaks}
use Rattle.sr_inv_verdicts.proofs.Clashing.{descends, stands_matches, taken_clash}
use Rattle.sr_law.specs.Held.{matches_entry, may_clash}
use Rattle.sr_law.specs.Taken.{taken}
use Rattle.sr_law.specs.declared.taking.Taking.{Taking}
use Rattle.sr_machine.proofs.Written.{reserved_says}
use Rattle.sr_machine.specs.Core.{Core, printed}
use Rattle.sr_machine.specs.Reads.{live_word, reserved_word, says, stands_for}
use Rattle.sr_machine.specs.declared.job.Job.{Job}
use Rattle.sr_machine.specs.declared.put.Put.{Put}
use Rattle.sr_machine.specs.declared.wait.Wait.{Wait}
use Rattle.sr_shadow.proofs.Finding.{found_passes}
use Rattle.sr_shadow.specs.Book.{holder_entry, holder_of}
use Rattle.sr_shadow.specs.Entry.{holds, is_at}
use Rattle.sr_shadow.specs.declared.entry.Entry.{Entry}
use Rattle.sr_update.proofs.Dues.{all_find}
use Rattle.sr_machine.specs.declared.draw.Draw.TheVariants as draw
use Rattle.sr_machine.specs.declared.store.Store.TheVariants as store
use Rattle.sr_machine.specs.declared.wait.Wait.TheVariants as wait
use Rattle.sr_machine.specs.declared.why.Why.TheVariants as why
use Rattle.sr_machine.specs.declared.job.Job.TheVariants as job
use Rattle.sr_machine.specs.declared.name.Name.TheVariants as name
use Rattle.sr_machine.specs.declared.said.Said.TheVariants as said

-- the place is taken by a key whose entry there is taken for this one's
pub record IsTaken (s : Core) (place : Place) (c : KeyView) : Type 0 where
  pub taking : Taking
  pub taken_so : taken (printed s) place ≡ Some taking
  pub matches : matches_entry s.config.layout.shape c taking.key place ≡ true

module _ (s : Core) (i : Invariant s) (place : Place) (c : KeyView) (own : is_place_of s.config.layout.shape c place ≡ true) where
  abbrev l : LayoutView
  l = s.config.layout

  abbrev es : List Entry
  es = s.controller.book.entries

  holds_now : (j : Job) → s.controller.job ≡ j → JobHolds s.config (seen s.controller) (printed s) j
  holds_now j q = subst (JobHolds s.config (seen s.controller) (printed s)) q i.jobs.holds.stands

  -- ---- a place that an entry holds

  -- what a job is about to do with a place that nobody holds
  unheld : (at : Place) (own key : KeyView) (is_live : Bool) (t : Taking) → holder_of at es ≡ None → taking_at at own is_live place ≡ Some t
      → holder_of place es ≡ Some key
      → t.key ≡ key
  unheld at own key is_live t free e h = by (same_place at place) refl e
    where
      by : (b : Bool) → same_place at place ≡ b → (if b then Some (record { key = own; placed = is_live }) else None) ≡ Some t → t.key ≡ key
      by true q g =
          let none : None ≡ Some key = sym free ∙ (ap (λ z. holder_of z es) (same_place-true at place q) ∙ h) in absurd (cc)
      by false q g = cc

  judge_holder : (t : Taking) (key : KeyView) (w : Wait) → OnJudge w (PutHolds l.shape es s.controller.held) → judge_taking w place ≡ Some t
      → holder_of place es ≡ Some key
      → t.key ≡ key
  judge_holder t key (wait.Judge p) m e h = unheld p.place p.key key false t m.free e h
  judge_holder t key w m e h = cc

  live_holder : (p : Put) (t : Taking) (key : KeyView) → LiveHolds es s.controller.held p → taking_at p.place p.key false place ≡ Some t
      → holder_of place es ≡ Some key
      → t.key ≡ key
  live_holder p t key m e h = by (same_place p.place place) refl e
    where
      by : (b : Bool) → same_place p.place place ≡ b → (if b then Some (record { key = p.key; placed = false }) else None) ≡ Some t → t.key ≡ key
      by true q g =
          let stands = m.stands in
          let here : p.place ≡ place = same_place-true p.place place q in
          let holder : holder_entry p.place es ≡ Some stands.0 =
          holder_found es p.key p.place stands.0 i.shape.book.distinct i.jobs.holds.once stands.1 (at_held p.place stands.0 stands.2) in
          let its : Some stands.0.key ≡ Some key =
          sym (ap (option_map (λ e. e.key)) holder) ∙ (ap (λ z. holder_of z es) here ∙ h) in
          ap (λ z. z.key) (sym (same_Some _ t g)) ∙ (found_key p.key es stands.0 stands.1 ∙ same_Some stands.0.key key its)
      by false q g = cc

  -- a job that has the place has it for the key that holds it
  job_holder : (t : Taking) (key : KeyView) (j : Job) → s.controller.job ≡ j → job_taking j place ≡ Some t → holder_of place es ≡ Some key
      → t.key ≡ key
  job_holder t key (job.Store (store.Reserved p)) q e h =
      unheld p.place p.key key false t (holds_now (job.Store (store.Reserved p)) q).0.free e h
  job_holder t key (job.Draw (draw.Grace w)) q e h = judge_holder t key w (holds_now (job.Draw (draw.Grace w)) q).0 e h
  job_holder t key (job.Pass grace pipe w) q e h = judge_holder t key w (holds_now (job.Pass grace pipe w) q).0 e h
  job_holder t key (job.Drain pipe count w) q e h = judge_holder t key w (holds_now (job.Drain pipe count w) q).0 e h
  job_holder t key (job.Store (store.Judge p)) q e h =
      unheld p.place p.key key false t (holds_now (job.Store (store.Judge p)) q).0.free e h
  job_holder t key (job.Draw (draw.Placed p)) q e h = live_holder p t key (holds_now (job.Draw (draw.Placed p)) q).1 e h
  job_holder t key (job.Store (store.Empty own at (why.Retired version))) q e h =
      unheld at own key true t (holds_now (job.Store (store.Empty own at (why.Retired version))) q).0.free e h
  job_holder t key (job.Draw (draw.Cleared own at w)) q e h =
      unheld at own key (not (is_given_up w)) t (holds_now (job.Draw (draw.Cleared own at w)) q).0.free e h
  job_holder t key j q e h = cc

  placed_by : (e : Entry) (o : Option Place) → PlaceFits l.shape e.key o → is_at place o ≡ true → is_place_of l.shape e.key place ≡ true
  placed_by e None f h = cc
  placed_by e (Some p) f h = subst (λ q. is_place_of l.shape e.key q ≡ true) (sym (same_place-true place p h)) f

  entry_place : (e : Entry) → EntryFits l e → holds place e ≡ true → is_place_of l.shape e.key place ≡ true
  entry_place e f h = at (is_at place e.place) refl h
    where
      at : (b : Bool) → is_at place e.place ≡ b → (b || is_at place e.also) ≡ true → is_place_of l.shape e.key place ≡ true
      at true q g = placed_by e e.place f.place q
      at false q g = placed_by e e.also f.also g

  held_taken : (e : Entry) → holder_entry place es ≡ Some e → Speaks (says l place c (live_word l place e.key e.version)) → IsTaken s place c
  held_taken e q sp = at (job_taking s.controller.job place) refl
    where
      fits : EntryFits l e
      fits = all_find (EntryFits l) (holds place) es e i.shape.book.entries q

      matches : matches_entry l.shape c e.key place ≡ true
      matches =
          stands_matches l place e.key c (entry_place e fits (found_passes (holds place) es e q)) own
          (live_speaks l i.shape.config.layout place e.key c e.version fits.key fits.version sp)

      holder : holder_of place es ≡ Some e.key
      holder = ap (option_map (λ e. e.key)) q

      at : (o : Option Taking) → job_taking s.controller.job place ≡ o → IsTaken s place c
      at None r = record {
        taking = record { key = e.key; placed = true };
        taken_so = i.jobs.holds.places place
            ∙ (ap (λ o. option_or o (book_taking es place)) r ∙ ap (option_map (λ key. record { key = key; placed = true })) holder);
        matches = matches;
      }
      at (Some t) r = record {
        taking = t;
        taken_so = i.jobs.holds.places place ∙ ap (λ o. option_or o (book_taking es place)) r;
        matches = subst (λ k. matches_entry l.shape c k place ≡ true) (sym (job_holder t e.key s.controller.job refl r holder)) matches;
      }

  -- ---- a place that a job has

  silent : Speaks (says l place c 0) → IsTaken s place c
  silent sp = absurd (empty_silent l place c 0 refl sp)

  stands_by : (b : Bool) → Speaks (if b then said.Reserved else said.Nothing) → b ≡ true
  stands_by true sp = refl
  stands_by false sp = absurd sp

  taken_by : (at : Place) (key : KeyView) (is_live : Bool) (j : Job) → s.controller.job ≡ j → job_taking j place ≡ taking_at at key is_live place
      → same_place at place ≡ true
      → matches_entry l.shape c key place ≡ true
      → IsTaken s place c
  taken_by at key is_live j q e same m = record {
    taking = record { key = key; placed = is_live };
    taken_so = i.jobs.holds.places place
        ∙ (ap (λ z. option_or (job_taking z place) (book_taking es place)) q
        ∙ (ap (λ o. option_or o (book_taking es place)) e
        ∙ ap (λ b. option_or (if b then Some (record { key = key; placed = is_live }) else None) (book_taking es place)) same));
    matches = m;
  }

  put_taken : (p : Put) (j : Job) → s.controller.job ≡ j → PutHolds l.shape es s.controller.held p
      → job_taking j place ≡ taking_at p.place p.key false place
      → Speaks (says l place c (put_word l place p))
      → IsTaken s place c
  put_taken p j q m e sp = at (same_place p.place place) refl sp
    where
      fits : PutFits l p
      fits = put_fits s.config i.shape.config.layout s.controller i.shape.book i.shape.controller p m

      at : (b : Bool) → same_place p.place place ≡ b → Speaks (says l place c (if b then reserved_word l p.place p.key else 0)) → IsTaken s place c
      at true r t =
          let here : p.place ≡ place = same_place-true p.place place r in
          let speaks : Speaks (says l place c (reserved_word l place p.key)) = subst (λ z. Speaks (says l place c (reserved_word l z p.key))) here t in
          let stands : stands_for l place p.key c ≡ true =
          stands_by (stands_for l place p.key c) (subst Speaks (reserved_says l i.shape.config.layout place p.key c fits.key.is_key) speaks) in
          taken_by p.place p.key false j q e r
          (stands_matches l place p.key c (subst (λ z. is_place_of l.shape p.key z ≡ true) here fits.place) own stands)
      at false r t = silent t

  judged_taken : (w : Wait) (j : Job) → s.controller.job ≡ j → OnJudge w (PutHolds l.shape es s.controller.held)
      → job_taking j place ≡ judge_taking w place
      → Speaks (says l place c (judged_place l place w))
      → IsTaken s place c
  judged_taken (wait.Judge p) j q m e sp = put_taken p j q m e sp
  judged_taken w j q m e sp = silent sp

  over_taken : (key : KeyView) (at : Place) (version : ℕ) → s.controller.job ≡ job.Store (store.Empty key at (why.Retired version))
      → Speaks (says l place c (if same_place at place then live_word l at key version else 0))
      → IsTaken s place c
  over_taken key at version q sp = by (same_place at place) refl sp
    where
      is_key : IsKey key
      is_key = subst (λ j. OnOver j IsKey) q i.flight.over

      below : version < l.shape.versions
      below =
          used_below l s.controller.numbers key.vip version i.shape.controller.numbers
          (subst (JobWaited es s.controller.numbers s.controller.mark) q i.update.versions.waited)

      by : (b : Bool) → same_place at place ≡ b → Speaks (says l place c (if b then live_word l at key version else 0)) → IsTaken s place c
      by true r t =
          let here : at ≡ place = same_place-true at place r in
          let speaks : Speaks (says l place c (live_word l place key version)) = subst (λ z. Speaks (says l place c (live_word l z key version))) here t in
          let left = (holds_now (job.Store (store.Empty key at (why.Retired version))) q).0 in
          taken_by at key true (job.Store (store.Empty key at (why.Retired version))) q refl r
          (stands_matches l place key c (subst (λ z. is_place_of l.shape key z ≡ true) here left.own) own
          (live_speaks l i.shape.config.layout place key c version is_key below speaks))
      by false r t = silent t

  job_taken : (j : Job) → s.controller.job ≡ j → Speaks (says l place c (job_word l place j)) → IsTaken s place c
  job_taken (job.Draw (draw.Grace w)) q sp =
      judged_taken w (job.Draw (draw.Grace w)) q (holds_now (job.Draw (draw.Grace w)) q).0 refl sp
  job_taken (job.Pass grace pipe w) q sp =
      judged_taken w (job.Pass grace pipe w) q (holds_now (job.Pass grace pipe w) q).0 refl sp
  job_taken (job.Drain pipe count w) q sp =
      judged_taken w (job.Drain pipe count w) q (holds_now (job.Drain pipe count w) q).0 refl sp
  job_taken (job.Store (store.Judge p)) q sp =
      put_taken p (job.Store (store.Judge p)) q (holds_now (job.Store (store.Judge p)) q).0 refl sp
  job_taken (job.Store (store.Empty key at (why.Retired version))) q sp = over_taken key at version q sp
  job_taken j q sp = silent sp

  -- the word of a place that speaks to a key of it
  pub speaks_taken : Speaks (says l place c (s.words (name.Entry place))) → IsTaken s place c
  speaks_taken sp =
      at (holder_entry place es) refl (subst (λ x. Speaks (says l place c x)) (i.words.others.table place) sp)
    where
      at : (o : Option Entry) → holder_entry place es ≡ o
          → Speaks (says l place c (unwrap_or (option_map (λ e. live_word l place e.key e.version) o) (job_word l place s.controller.job)))
          → IsTaken s place c
      at (Some e) q t = held_taken e q t
      at None q t = job_taken s.controller.job refl t

-- so an opener that finds it may be held
pub speaks_clash : (s : Core) → Invariant s → (place : Place) (c : KeyView) → is_place_of s.config.layout.shape c place ≡ true
    → Speaks (says s.config.layout place c (s.words (name.Entry place)))
    → (start : ℕ)
    → may_clash s.config.layout.shape (printed s) c start ≡ true
speaks_clash s i place c own sp start =
    let t = speaks_taken s i place c own sp in
    taken_clash s.config.layout.shape c start place (printed s) t.taking
    (descends (setup_of s.config) _ (printed s) i.causes.causes.clauses) t.taken_so t.matches
