-- The version that a place tells a packet is that of the entry that holds the place, or of a connection that is over and whose place is
-- still to be emptied.
use Rattle.std.proofs.Common.{◌≡◌, ℕ, ◌<◌, ◌≤◌, Bool, true, false, ◌⊎◌, List, [], length, if◌then◌else◌, ◌==◌, slice_index_or, Some, None, Option, unwrap_or, option_map, sym, refl, ap, ◌∙◌, subst, inl, inr, arith}
use Rattle.std.proofs.lemmas.Bool.{and_parts}
use Rattle.std.proofs.lemmas.Bool.Decides.{nat_tests}
use Rattle.std.proofs.lemmas.Option.{slice_get_within}
use Rattle.sr_base.proofs.Sameness.{same_key-true, same_place-true}
use Rattle.sr_base.specs.Key.{IsKey, KeyView}
use Rattle.sr_base.specs.Layout.{LayoutView}
use Rattle.sr_base.specs.Place.{same_place}
use Rattle.sr_base.specs.declared.place.Place.{Place}
use Rattle.sr_base.specs.declared.place.Place.TheVariants.{Slot, Row}
use Rattle.sr_inv_facts.proofs.Lists.{all_then, got_or}
use Rattle.sr_inv_facts.proofs.Ranges.{put_fits}
use Rattle.sr_inv_facts.specs.Doing.{OnJudge}
use Rattle.sr_inv_facts.specs.InFlight.{OnOver}
use Rattle.sr_inv_facts.specs.InJobs.{JobHolds, PutHolds, seen}
use Rattle.sr_inv_facts.specs.InShape.{EntryFits, RowsFit}
use Rattle.sr_inv_facts.specs.InUpdate.{JobWaited, is_used, is_used_by}
use Rattle.sr_inv_facts.specs.InWords.{job_word, judged_place, put_word}
use Rattle.sr_inv_facts.specs.Invariant.{Invariant}
use Rattle.sr_hash.specs.Uses.{digest_of}
use Rattle.sr_machine.proofs.Written.{empty_says, live_says, reserved_says}
use Rattle.sr_machine.specs.Core.{Core, printed}
use Rattle.sr_machine.specs.Reads.{live_word, reserved_word, says, stands_for}
use Rattle.sr_machine.specs.declared.job.Job.{Job}
use Rattle.sr_machine.specs.declared.put.Put.{Put}
use Rattle.sr_machine.specs.declared.wait.Wait.{Wait}
use Rattle.sr_shadow.specs.Book.{holder_entry}
use Rattle.sr_shadow.specs.Entry.{holds}
use Rattle.sr_shadow.specs.declared.entry.Entry.{Entry}
use Rattle.sr_update.proofs.Dues.{all_find}
use Rattle.sr_update.specs.Numbers.{NumberRows, state_of}
use Rattle.sr_update.specs.declared.number_state.NumberState.{NumberState}
use Rattle.sr_machine.specs.declared.draw.Draw.TheVariants as draw
use Rattle.sr_machine.specs.declared.store.Store.TheVariants as store
use Rattle.sr_machine.specs.declared.wait.Wait.TheVariants as wait
use Rattle.sr_machine.specs.declared.why.Why.TheVariants as why
use Rattle.sr_machine.specs.declared.job.Job.TheVariants as job
use Rattle.sr_machine.specs.declared.name.Name.TheVariants as name
use Rattle.sr_machine.specs.declared.said.Said.TheVariants as said

-- the entry that holds the place tells this version to packets of the key
pub record FoundEntry (l : LayoutView) (entries : List Entry) (place : Place) (key : KeyView) (n : ℕ) : Type 0 where
  pub entry : Entry
  pub holder : holder_entry place entries ≡ Some entry
  pub version : n ≡ entry.version
  pub stands : stands_for l place entry.key key ≡ true

-- the connection of this job is over, and its place tells this version to packets of the key
abbrev pub FoundOver : LayoutView → Job → Place → KeyView → ℕ → Type 0
FoundOver l (job.Store (store.Empty own at (why.Retired version))) place key n =
    (at ≡ place) × (n ≡ version) × (stands_for l place own key ≡ true)
FoundOver l j place key n = ⊥

-- an entry is taken for a key of its own virtual address alone
pub stands_vip : (l : LayoutView) (place : Place) (own key : KeyView) → stands_for l place own key ≡ true → own.vip ≡ key.vip
stands_vip l (Slot way bucket cell) own key e =
    let parts = and_parts (own.vip == key.vip) (digest_of way own l.shape.digest_bits == digest_of way key l.shape.digest_bits) e in
    grind (arith, nat_tests, parts.0)
stands_vip l (Row row) own key e = ap (λ k. k.vip) (sym (same_key-true key own e))

-- a version that isn't free is one of the layout
pub used_below : (l : LayoutView) (numbers : NumberRows) (vip n : ℕ) → RowsFit l numbers → is_used numbers vip n ≡ true → n < l.shape.versions
used_below l numbers vip n f u = at (state_of vip n numbers) refl u
  where
    long : length (slice_index_or numbers vip []) ≤ l.shape.versions
    long =
        got_or (λ row. length row ≤ l.shape.versions) numbers vip []
        (all_then (λ row. length row ≡ l.shape.versions) (λ row. length row ≤ l.shape.versions) (λ row e. omega (arith, e)) numbers f.each)
        (omega arith)

    at : (o : Option NumberState) → state_of vip n numbers ≡ o → is_used_by o ≡ true → n < l.shape.versions
    at None e q = cc
    at (Some is) e q = omega (arith, slice_get_within (slice_index_or numbers vip []) n is e, long)

module _ (s : Core) (i : Invariant s) (place : Place) (key : KeyView) (n : ℕ) where
  live_by : (b : Bool) (m : ℕ) → (if b then said.Live m else said.Nothing) ≡ said.Live n → (n ≡ m) × (b ≡ true)
  live_by true m e = (cc e, refl)
  live_by false m e = cc

  reserved_by : (b : Bool) → (if b then said.Reserved else said.Nothing) ≡ said.Live n → ⊥
  reserved_by true e = cc
  reserved_by false e = cc

  none_by : says s.config.layout place key 0 ≡ said.Live n → ⊥
  none_by e = at (sym (empty_says s.config.layout place key) ∙ e)
    where
      at : said.Nothing ≡ said.Live n → ⊥
      at e = cc

  -- a place that is reserved tells no version
  put_silent : (p : Put) → IsKey p.key → says s.config.layout place key (put_word s.config.layout place p) ≡ said.Live n → ⊥
  put_silent p h e = at (same_place p.place place) refl e
    where
      at : (b : Bool) → same_place p.place place ≡ b
          → says s.config.layout place key (if b then reserved_word s.config.layout p.place p.key else 0) ≡ said.Live n → ⊥
      at true q e =
          let same : p.place ≡ place = same_place-true p.place place q in
          reserved_by (stands_for s.config.layout place p.key key)
          (sym (reserved_says s.config.layout i.shape.config.layout place p.key key h)
          ∙ subst (λ z. says s.config.layout place key (reserved_word s.config.layout z p.key) ≡ said.Live n) same e)
      at false q e = none_by e

  over_found : (own : KeyView) (at : Place) (version : ℕ) → IsKey own → version < s.config.layout.shape.versions
      → says s.config.layout place key (if same_place at place then live_word s.config.layout at own version else 0) ≡ said.Live n
      → (at ≡ place) × (n ≡ version) × (stands_for s.config.layout place own key ≡ true)
  over_found own at version h v e = by (same_place at place) refl e
    where
      by : (b : Bool) → same_place at place ≡ b
          → says s.config.layout place key (if b then live_word s.config.layout at own version else 0) ≡ said.Live n
          → (at ≡ place) × (n ≡ version) × (stands_for s.config.layout place own key ≡ true)
      by true q e =
          let same : at ≡ place = same_place-true at place q in
          let f = live_by (stands_for s.config.layout place own key) version
          (sym (live_says s.config.layout i.shape.config.layout place own key version h v)
          ∙ subst (λ z. says s.config.layout place key (live_word s.config.layout z own version) ≡ said.Live n) same e) in
          (same, f.0, f.1)
      by false q e = absurd (none_by e)

  -- the key of a put is one
  put_is_key : (p : Put) → PutHolds s.config.layout.shape s.controller.book.entries s.controller.held p → IsKey p.key
  put_is_key p m = (put_fits s.config i.shape.config.layout s.controller i.shape.book i.shape.controller p m).key.is_key

  judged_silent : (w : Wait) → (OnJudge w (PutHolds s.config.layout.shape s.controller.book.entries s.controller.held))
      → says s.config.layout place key (judged_place s.config.layout place w) ≡ said.Live n → ⊥
  judged_silent (wait.Judge p) m e = put_silent p (put_is_key p m) e
  judged_silent w m e = none_by e

  job_found : (j : Job) → s.controller.job ≡ j → says s.config.layout place key (job_word s.config.layout place j) ≡ said.Live n
      → FoundOver s.config.layout j place key n
  job_found (job.Draw (draw.Grace w)) q e =
      judged_silent w (subst (JobHolds s.config (seen s.controller) (printed s)) q i.jobs.holds.stands).0 e
  job_found (job.Pass grace pipe w) q e =
      judged_silent w (subst (JobHolds s.config (seen s.controller) (printed s)) q i.jobs.holds.stands).0 e
  job_found (job.Drain pipe count w) q e =
      judged_silent w (subst (JobHolds s.config (seen s.controller) (printed s)) q i.jobs.holds.stands).0 e
  job_found (job.Store (store.Judge p)) q e =
      put_silent p (put_is_key p (subst (JobHolds s.config (seen s.controller) (printed s)) q i.jobs.holds.stands).0) e
  job_found (job.Store (store.Empty own at (why.Retired version))) q e =
      over_found own at version (subst (λ j. OnOver j IsKey) q i.flight.over)
      (used_below s.config.layout s.controller.numbers own.vip version i.shape.controller.numbers
      (subst (JobWaited s.controller.book.entries s.controller.numbers s.controller.mark) q i.update.versions.waited)) e
  job_found j q e = none_by e

  entry_found : (e : Entry) → holder_entry place s.controller.book.entries ≡ Some e
      → says s.config.layout place key (live_word s.config.layout place e.key e.version) ≡ said.Live n
      → FoundEntry s.config.layout s.controller.book.entries place key n
  entry_found e q h =
      let f = all_find (EntryFits s.config.layout) (holds place) s.controller.book.entries e i.shape.book.entries q in
      let t = live_by (stands_for s.config.layout place e.key key) e.version
      (sym (live_says s.config.layout i.shape.config.layout place e.key key e.version f.key f.version) ∙ h) in
      record { entry = e; holder = q; version = t.0; stands = t.1 }

  -- what a place tells
  pub version_found : says s.config.layout place key (s.words (name.Entry place)) ≡ said.Live n
      → FoundEntry s.config.layout s.controller.book.entries place key n ⊎ FoundOver s.config.layout s.controller.job place key n
  version_found e =
      at (holder_entry place s.controller.book.entries) refl
      (subst (λ x. says s.config.layout place key x ≡ said.Live n) (i.words.others.table place) e)
    where
      at : (o : Option Entry) → holder_entry place s.controller.book.entries ≡ o
          → says s.config.layout place key (unwrap_or (option_map (λ e. live_word s.config.layout place e.key e.version) o) (job_word s.config.layout place s.controller.job)) ≡ said.Live n
          → FoundEntry s.config.layout s.controller.book.entries place key n ⊎ FoundOver s.config.layout s.controller.job place key n
      at (Some e) q h = inl (entry_found e q h)
      at None q h = inr (job_found s.controller.job refl h)
