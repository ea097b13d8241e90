-- The keys that wait for a place are in the filter as the phase of their virtual address asks.
use Rattle.std.proofs.Common.{◌≡◌, ℕ, ◌+◌, ◌%◌, ◌<◌, ◌≤◌, Bool, true, false, ◌&&◌, not, nat_lt, ◌≢◌, ◌⊎◌, List, [], ◌∷◌, ◌++◌, cond, find, if◌then◌else◌, ◌==◌, slice_get, slice_set, Some, None, Option, sym, refl, ap, ◌∙◌, subst, inl, inr, true≢false, arith, get_or-set_other}
use Rattle.std.proofs.lemmas.Bool.{cases_eq}
use Rattle.std.proofs.lemmas.Bool.Decides.{nat_tests}
use Rattle.std.proofs.lemmas.Option.{same_Some}
use Rattle.std.specs.List.{AllByRecursion}
use Rattle.sr_base.proofs.Sameness.{same_key-self}
use Rattle.sr_base.specs.Key.{KeyView}
use Rattle.sr_base.specs.Layout.{LayoutView}
use Rattle.sr_base.specs.declared.ring_word.RingKind.TheVariants.{Learn}
use Rattle.sr_base.specs.declared.ring_word.RingWord.{RingWord}
use Rattle.sr_base.specs.declared.vip_word.Phase.{Phase}
use Rattle.sr_base.specs.declared.vip_word.Phase.TheVariants.{Steady, Recording, Holding, Transit}
use Rattle.sr_base.specs.declared.vip_word.VipWord.{VipWord}
use Rattle.sr_inv_facts.proofs.Beginning.{begun_by}
use Rattle.sr_inv_facts.proofs.Books.{changed_all}
use Rattle.sr_inv_facts.proofs.Filters.{marked_more, set_more}
use Rattle.sr_inv_facts.proofs.Lists.{all_both, all_filtered, all_more, all_of, all_then, of_some}
use Rattle.sr_inv_facts.proofs.Taking.{TakesBook, closed_book, learned_book, same_book, takes}
use Rattle.sr_inv_facts.specs.Fitted.{IsPacket}
use Rattle.sr_inv_facts.specs.InFilter.{EntryMarked, IsOfWord, KeyMarked, LearnMarked, OfUpdate, PendingKept, PendingMarked, ReportMarked, is_settling, phase_at}
use Rattle.sr_inv_facts.specs.InShape.{JobFits, MayDrain}
use Rattle.sr_inv_facts.specs.InUpdate.{AtPhase, IsAside, JobAt, JobWaited, UpdateFits}
use Rattle.sr_inv_facts.specs.Invariant.{Invariant}
use Rattle.sr_inv_facts.specs.Laws.{OpensWith}
use Rattle.sr_inv_facts.specs.Readings.{IfLearn, bit_words, is_marked}
use Rattle.sr_inv_filter.proofs.FilterSteps.{IsPlain, at_update, clearing_phase, job_bits, mark_recorded, of_update, recorded_phase, settles_recording, step_bits, stored_phase, stored_word, storing, update_then}
use Rattle.sr_inv_filter.proofs.LoadedPhases.{phase_is, recording_holding, recording_transit, steady_holding, steady_recording, steady_transit}
use Rattle.sr_inv_filter.proofs.RingReports.{key_more, key_settles, key_steady, stored_key, stored_of}
use Rattle.sr_inv_flight.proofs.Steps.{OnOp}
use Rattle.sr_machine.proofs.Following.{goes}
use Rattle.sr_machine.specs.Begins.{Begins}
use Rattle.sr_machine.specs.Core.{Core}
use Rattle.sr_machine.specs.Deciding.{is_withdrawn, ring_count, version_for, vip_at}
use Rattle.sr_machine.specs.Goes.{Goes}
use Rattle.sr_machine.specs.Jobs.{book_next, job_next, job_op, judged_book, mark_next, marked}
use Rattle.sr_machine.specs.Keeping.{AfterJob, AfterStage, Keeps, begun_core}
use Rattle.sr_machine.specs.Names.{rewritten}
use Rattle.sr_machine.specs.Opening.{opening_controller}
use Rattle.sr_machine.specs.Ops.{op_answer, op_name, op_words}
use Rattle.sr_machine.specs.Pipe.{pipe_op}
use Rattle.sr_machine.specs.Reads.{filter_bit, filter_word, read_flag, read_report, steady}
use Rattle.sr_machine.specs.Stages.{ring_cell}
use Rattle.sr_machine.specs.Starting.{Start, update_to}
use Rattle.sr_machine.specs.Stores.{is_last_filter, phase_word, vip_draw}
use Rattle.sr_machine.specs.Taking.{ended_by, taking}
use Rattle.sr_machine.specs.Waiting.{has_next, is_ring_done, is_wait_done, waited_phase}
use Rattle.sr_machine.specs.declared.job.Job.{Job}
use Rattle.sr_machine.specs.declared.leg.Leg.TheVariants.{Judged}
use Rattle.sr_machine.specs.declared.op.Op.{Op}
use Rattle.sr_machine.specs.declared.pipe_view.PipeView.{PipeView}
use Rattle.sr_machine.specs.declared.pool_update.PoolUpdate.{PoolUpdate}
use Rattle.sr_machine.specs.declared.put.Put.{Put}
use Rattle.sr_machine.specs.declared.stage.Stage.{Stage}
use Rattle.sr_machine.specs.declared.stage.Stage.TheVariants.{Fly}
use Rattle.sr_shadow.specs.Book.{TakenFrom, is_registered}
use Rattle.sr_shadow.specs.Entry.{closed, fresh, is_of, is_pending, left_other, settled, swept}
use Rattle.sr_shadow.specs.declared.book.Book.{Book}
use Rattle.sr_shadow.specs.declared.entry.Entry.{Entry}
use Rattle.sr_update.specs.Waits.{recording_waits_for, transit_waits_for}
use Rattle.sr_inv_facts.specs.Putting.{put_core}
use Rattle.sr_machine.specs.Begins as begin
use Rattle.sr_machine.specs.Goes as go
use Rattle.sr_machine.specs.declared.draw.Draw.TheVariants as draw
use Rattle.sr_machine.specs.declared.job.Job.TheVariants as job
use Rattle.sr_machine.specs.declared.leg.Last.TheVariants as last
use Rattle.sr_machine.specs.declared.name.Name.TheVariants as name
use Rattle.sr_machine.specs.declared.op.Op.TheVariants as op
use Rattle.sr_machine.specs.declared.store.Store.TheVariants as store
use Rattle.sr_machine.specs.declared.wait.Wait.TheVariants as wait

-- ---- what is said of a key

-- a key that an update may wait for, or doesn't
key_awaits : (u : PoolUpdate) (p : Phase) (settling awaited : Bool) (n : ℕ) (marked : Bool) → KeyMarked u p settling false n marked
    → KeyMarked u p settling awaited n marked
key_awaits u Steady a b n m h = tt
key_awaits u Recording a b n m h = λ x y. h x refl
key_awaits u Holding a b n m h = h
key_awaits u Transit a b n m h = h

key_unawaited : (u : PoolUpdate) (p : Phase) (settling awaited : Bool) (n : ℕ) (marked : Bool) → (p ≡ Recording → awaited ≡ false)
    → KeyMarked u p settling awaited n marked
    → KeyMarked u p settling false n marked
key_unawaited u Steady a b n m w h = tt
key_unawaited u Recording a b n m w h = λ x y. h x (w refl)
key_unawaited u Holding a b n m w h = h
key_unawaited u Transit a b n m w h = h

none_found : (p : Entry → Bool) (es : List Entry) → find p es ≡ None → AllByRecursion (λ e. p e ≡ false) es
none_found p [] q = tt
none_found p (e ∷ es) q = at (p e) refl q (none_found p es)
  where
    at : (b : Bool) → p e ≡ b → cond b (Some e) (find p es) ≡ None → (find p es ≡ None → AllByRecursion (λ e. p e ≡ false) es)
        → AllByRecursion (λ e. p e ≡ false) (e ∷ es)
    at true t q more = cc
    at false t q more = (t, more q)

taken_least : (low high : ℕ) (es : List Entry) → TakenFrom low es high → low ≤ high
taken_least low high [] t = t
taken_least low high (e ∷ es) t = let more : e.taken + 1 ≤ high = taken_least (e.taken + 1) high es t.1 in omega (arith, t.0, more)

taken_below : (low high : ℕ) (es : List Entry) → TakenFrom low es high → AllByRecursion (λ e. e.taken < high) es
taken_below low high [] t = tt
taken_below low high (e ∷ es) t =
    let more : e.taken + 1 ≤ high = taken_least (e.taken + 1) high es t.1 in (omega (arith, more), taken_below (e.taken + 1) high es t.1)

module _ (s : Core) (i : Invariant s) where
  abbrev l : LayoutView
  l = s.config.layout

  abbrev vips : List VipWord
  vips = s.controller.vips

  abbrev update : Option PoolUpdate
  update = s.controller.update

  abbrev bits : ℕ → ℕ
  bits = bit_words s.words

  abbrev es : List Entry
  es = s.controller.book.entries

  abbrev Is : Entry → Type 0
  Is = PendingMarked l bits update vips s.controller.job s.controller.mark

  -- ---- a pipe's step

  stage_frame : (p : ℕ) (v : PipeView) (at : Stage) (o : Option Op) → OnOp o (λ o. bit_words (op_words s.words o) ≡ bit_words s.words)
      → AfterStage PendingKept s p v at o
  stage_frame p v at None b = tt
  stage_frame p v at (Some o) b =
      subst (λ z. AllByRecursion (PendingMarked l z update vips s.controller.job s.controller.mark) es) (sym b) i.filter.filter.pending

  stage_kept : (p : ℕ) (v : PipeView) (q : slice_get s.pipes p ≡ Some v) (at : Stage) → v.stage ≡ at → AfterStage PendingKept s p v at (pipe_op l v at)
  stage_kept p v q (Fly f (Judged w (last.Mark bit rest))) e =
      let after = bit_words (op_words s.words (op.Ors (name.Filter (filter_word bit)) (filter_bit bit))) in
      all_then Is (PendingMarked l after update vips s.controller.job s.controller.mark)
      (λ n h t. (
        (h t).0,
        update_then update n.key (λ u. EntryMarked l bits vips s.controller.job s.controller.mark u n) (λ u. EntryMarked l after vips s.controller.job s.controller.mark u n)
            (λ u is own k.
            key_more u (phase_at vips u) (is_settling Recording s.controller.job) (nat_lt n.taken s.controller.mark) n.version (is_marked l bits n.key) (is_marked l after n.key)
            (recorded_phase update vips f.packet.key.vip f.vip (mark_recorded s i p v q f w bit rest e) u is)
            (marked_more bits after (set_more bits bit) l n.key) k) (h t).1,
      )) es i.filter.filter.pending
  stage_kept p v q at e = stage_frame p v at (pipe_op l v at) (step_bits s v at (λ n. n))

  -- ---- the book

  -- a key that is learned now is marked as its report is
  learned_is : (j : Job) → s.controller.job ≡ j → (pipe cell : ℕ) (w : RingWord) (taken : ℕ) → read_report l (s.words (name.Ring pipe cell)) ≡ Some w → w.kind ≡ Learn
      → PendingMarked l bits update vips j s.controller.mark (fresh w.key w.version taken)
  learned_is j q pipe cell w taken read kind t =
      let r : ReportMarked l bits update vips j w.key w.version =
      subst (λ z. ReportMarked l bits update vips z w.key w.version) q
      (subst (λ k. IfLearn k (ReportMarked l bits update vips s.controller.job w.key w.version)) kind (i.filter.filter.reports pipe cell w read)) in (
        r.0,
        update_then update w.key (LearnMarked l bits vips j w.key w.version) (λ u. EntryMarked l bits vips j s.controller.mark u (fresh w.key w.version taken))
            (λ u is own k. key_awaits u (phase_at vips u) (is_settling Recording j) (nat_lt taken s.controller.mark) w.version (is_marked l bits w.key) k.marked) r.1,
      )

  take_kept : (j : Job) → s.controller.job ≡ j → (ended : Option KeyView) (pipe cell : ℕ) (b d : Book) → AllByRecursion (PendingMarked l bits update vips j s.controller.mark) b.entries
      → TakesBook l s.controller.numbers ended (s.words (name.Ring pipe cell)) b d
      → AllByRecursion (PendingMarked l bits update vips j s.controller.mark) d.entries
  take_kept j q ended pipe cell b d h (same_book u) = h
  take_kept j q ended pipe cell b d h (learned_book w read kind c f) =
      all_more (PendingMarked l bits update vips j s.controller.mark) b.entries (fresh w.key w.version b.taken ∷ []) h (learned_is j q pipe cell w b.taken read kind, tt)
  take_kept j q ended pipe cell b d h (closed_book w read kind c) =
      changed_all (PendingMarked l bits update vips j s.controller.mark) (PendingMarked l bits update vips j s.controller.mark) closed w.key (λ e q g. g) (λ e q g. g) b.entries h

  -- a key that is made live waits no longer
  judged_kept : (j : Job) (b : Bool) (p : Put) (version : ℕ) → AllByRecursion (PendingMarked l bits update vips j s.controller.mark) es
      → AllByRecursion (PendingMarked l bits update vips j s.controller.mark) (judged_book b p version s.controller.book).entries
  judged_kept j true p version h = h
  judged_kept j false p version h =
      changed_all (λ e. is_of p.key e ≡ false → PendingMarked l bits update vips j s.controller.mark e) (PendingMarked l bits update vips j s.controller.mark) (settled p.place) p.key
      (λ e q g t. absurd (true≢false (sym t))) (λ e q g. g q) (if is_registered p.key es then es else (es ++ fresh p.key version s.controller.book.taken ∷ [])) (at (is_registered p.key es))
    where
      old : AllByRecursion (λ e. is_of p.key e ≡ false → PendingMarked l bits update vips j s.controller.mark e) es
      old = all_then (PendingMarked l bits update vips j s.controller.mark) (λ e. is_of p.key e ≡ false → PendingMarked l bits update vips j s.controller.mark e) (λ e g q. g) es h

      at : (b : Bool)
          → AllByRecursion (λ e. is_of p.key e ≡ false → PendingMarked l bits update vips j s.controller.mark e) (if b then es else (es ++ fresh p.key version s.controller.book.taken ∷ []))
      at true = old
      at false =
          all_more (λ e. is_of p.key e ≡ false → PendingMarked l bits update vips j s.controller.mark e) es (fresh p.key version s.controller.book.taken ∷ []) old
          ((λ q. absurd (true≢false (sym (same_key-self p.key) ∙ q))), tt)

  -- what is said of the entries under a job
  abbrev All : Job → List Entry → Type 0
  All j fs = AllByRecursion (PendingMarked l bits update vips j s.controller.mark) fs

  -- the entries after a step
  book_kept : (j : Job) → s.controller.job ≡ j → All j es
      → OnOp (job_op s.config s.controller j) (λ o. All j (book_next s.config s.controller j (op_answer o (s.words (op_name o)))).entries)
  book_kept job.Free q h = tt
  book_kept (job.Draw (draw.Retired key place version)) q h =
      all_filtered (PendingMarked l bits update vips (job.Draw (draw.Retired key place version)) s.controller.mark) (λ e. not (is_of key e)) es h
  book_kept (job.Store (store.Judge p)) q h =
      judged_kept (job.Store (store.Judge p)) (is_withdrawn s.config s.controller p) p (version_for vips es p.key) h
  book_kept (job.Store (store.Empty key place y)) q h =
      changed_all (PendingMarked l bits update vips (job.Store (store.Empty key place y)) s.controller.mark)
      (PendingMarked l bits update vips (job.Store (store.Empty key place y)) s.controller.mark) left_other key (λ e q g. g) (λ e q g. g) es h
  book_kept (job.Hit from ms key place taken) q h =
      changed_all (PendingMarked l bits update vips (job.Hit from ms key place taken) s.controller.mark)
      (PendingMarked l bits update vips (job.Hit from ms key place taken) s.controller.mark) (swept (read_flag (s.words (name.Hit place)))) key (λ e q g. g) (λ e q g. g) es h
  book_kept (job.Drain pipe count w) q h =
      take_kept (job.Drain pipe count w) q (ended_by (job.Drain pipe count w)) pipe ((ring_count s.controller.rings pipe).words % l.shape.ring) s.controller.book
      (taking s.config s.controller (ended_by (job.Drain pipe count w)) pipe (s.words (ring_cell l pipe (ring_count s.controller.rings pipe).words))).book h
      (takes s.config s.controller (ended_by (job.Drain pipe count w)) pipe (s.words (ring_cell l pipe (ring_count s.controller.rings pipe).words))).book
  book_kept (job.Look pipe) q h =
      take_kept (job.Look pipe) q None pipe ((ring_count s.controller.rings pipe).words % l.shape.ring) s.controller.book
      (taking s.config s.controller None pipe (s.words (ring_cell l pipe (ring_count s.controller.rings pipe).words))).book h
      (takes s.config s.controller None pipe (s.words (ring_cell l pipe (ring_count s.controller.rings pipe).words))).book
  book_kept j q h = h

  pending_at : (j : Job) → s.controller.job ≡ j → All j es
  pending_at j q = subst (λ z. All z es) q i.filter.filter.pending

  -- ---- the next job

  entry_settles : (j m : Job) → (is_settling Recording m ≡ false → is_settling Recording j ≡ false) → (fs : List Entry) → All j fs → All m fs
  entry_settles j m t fs h =
      all_then (PendingMarked l bits update vips j s.controller.mark) (PendingMarked l bits update vips m s.controller.mark)
      (λ n g p. (
        (g p).0,
        update_then update n.key (λ u. EntryMarked l bits vips j s.controller.mark u n) (λ u. EntryMarked l bits vips m s.controller.mark u n)
            (λ u is own k. key_settles u (phase_at vips u) (is_settling Recording j) (is_settling Recording m) (nat_lt n.taken s.controller.mark) n.version (is_marked l bits n.key) t k)
            (g p).1,
      )) fs h

  plain_kept : (j : Job) (o : Option Op) → IsPlain j → OnOp o (λ o. bit_words (op_words s.words o) ≡ bit_words s.words)
      → OnOp o (λ o. All j (book_next s.config s.controller j (op_answer o (s.words (op_name o)))).entries)
      → OnOp o (λ o. AllByRecursion (PendingMarked l (bit_words (op_words s.words o)) update vips (job_next s.config s.controller j (op_answer o (s.words (op_name o)))) s.controller.mark) (book_next s.config s.controller j (op_answer o (s.words (op_name o)))).entries)
  plain_kept j None n b h = tt
  plain_kept j (Some o) n b h =
      let x = op_answer o (s.words (op_name o)) in
      let m = job_next s.config s.controller j x in
      subst (λ z. AllByRecursion (PendingMarked l z update vips m s.controller.mark) (book_next s.config s.controller j x).entries) (sym b)
      (entry_settles j m (settles_recording s.config s.controller x j m (goes s.config s.controller x j) n) (book_next s.config s.controller j x).entries h)

  -- ---- a phase is stored

  fits : (u : PoolUpdate) → update ≡ Some u → UpdateFits s.config u
  fits u e = of_some (UpdateFits s.config) update u i.update.update.fits e

  module _ (u : PoolUpdate) (y : Phase) (q : s.controller.job ≡ job.Store (store.Vip u y)) where
    own : update ≡ Some u
    own = storing s i u y q

    waited : JobWaited es s.controller.numbers s.controller.mark (job.Store (store.Vip u y))
    waited = subst (JobWaited es s.controller.numbers s.controller.mark) q i.update.versions.waited

    -- what the update has waited for
    abbrev Waited : Phase → Entry → Type 0
    Waited Steady n = transit_waits_for u.vip u.replaced n ≡ false
    Waited Recording n = Unit {0}
    Waited Holding n = recording_waits_for u.vip s.controller.mark n ≡ false
    Waited Transit n = Unit {0}

    each_waited : (z : Phase) → JobWaited es s.controller.numbers s.controller.mark (job.Store (store.Vip u z)) → AllByRecursion (Waited z) es
    each_waited Steady w = none_found (transit_waits_for u.vip u.replaced) es w
    each_waited Recording w = all_of (Waited Recording) (λ n. tt) es
    each_waited Holding w = none_found (recording_waits_for u.vip s.controller.mark) es w
    each_waited Transit w = all_of (Waited Transit) (λ n. tt) es

    -- in Recording it waits for none of its keys
    unawaited : (z : Phase) → y ≡ z → (n : Entry) → Waited z n → is_pending n ≡ true → n.key.vip ≡ u.vip → phase_at vips u ≡ Recording
        → nat_lt n.taken s.controller.mark ≡ false
    unawaited Steady e n w p v r =
        let a : AtPhase update vips u Transit = subst (JobAt s.config update vips) (q ∙ ap (λ z. job.Store (store.Vip u z)) e) i.update.update.phase in
        absurd (recording_transit (sym r ∙ ap (λ z. z.phase) a.1))
    unawaited Recording e n w p v r =
        let a = subst (JobAt s.config update vips) (q ∙ ap (λ z. job.Store (store.Vip u z)) e) i.update.update.phase in
        absurd (steady_recording (sym (ap (λ z. z.phase) a.1) ∙ r))
    unawaited Holding e n w p v r = at (is_pending n) (n.key.vip == u.vip) (nat_lt n.taken s.controller.mark) p (grind (arith, nat_tests)) w
      where
        at : (a b c : Bool) → a ≡ true → b ≡ true → (a && (b && c)) ≡ false → c ≡ false
        at true true c s t h = h
        at true false c s t h = cc
        at false b c s t h = cc
    unawaited Transit e n w p v r =
        let a : AtPhase update vips u Holding = subst (JobAt s.config update vips) (q ∙ ap (λ z. job.Store (store.Vip u z)) e) i.update.update.phase in
        absurd (recording_holding (sym r ∙ ap (λ z. z.phase) a.1))

    -- before Steady no key has the old version
    unreplaced : (z : Phase) → y ≡ z → (n : Entry) → Waited z n → is_pending n ≡ true → n.key.vip ≡ u.vip → y ≡ Steady → n.version ≢ u.replaced
    unreplaced Steady e n w p v r = λ same. at (is_pending n) (n.key.vip == u.vip) (n.version == u.replaced) p (grind (arith, nat_tests)) (grind (arith, nat_tests)) w
      where
        at : (a b c : Bool) → a ≡ true → b ≡ true → c ≡ true → (a && (b && c)) ≡ false → ⊥
        at true true true s t g h = cc
        at true true false s t g h = cc
        at true false c s t g h = cc
        at false b c s t g h = cc
    unreplaced Recording e n w p v r = absurd (steady_recording (sym r ∙ e))
    unreplaced Holding e n w p v r = absurd (steady_holding (sym r ∙ e))
    unreplaced Transit e n w p v r = absurd (steady_transit (sym r ∙ e))

    stored_entry : (n : Entry) → Waited y n → PendingMarked l bits update vips (job.Store (store.Vip u y)) s.controller.mark n
        → PendingMarked l bits update (slice_set vips u.vip (phase_word u y)) (job.Draw (vip_draw u y)) s.controller.mark n
    stored_entry n w h p = at (cases_eq n.key.vip u.vip)
      where
        at : (n.key.vip ≡ u.vip) ⊎ (n.key.vip ≢ u.vip)
            → IsOfWord (vip_at (slice_set vips u.vip (phase_word u y)) n.key.vip) n.version
            × OfUpdate update n.key (λ u'. EntryMarked l bits (slice_set vips u.vip (phase_word u y)) (job.Draw (vip_draw u y)) s.controller.mark u' n)
        at (inl same) =
            let of : IsOfWord (vip_at vips u.vip) n.version = subst (λ z. IsOfWord (vip_at vips z) n.version) same (h p).0 in
            let old : EntryMarked l bits vips (job.Store (store.Vip u y)) s.controller.mark u n =
            at_update update n.key (λ u. EntryMarked l bits vips (job.Store (store.Vip u y)) s.controller.mark u n) u (h p).1 own same in
            let free : KeyMarked u (phase_at vips u) false false n.version (is_marked l bits n.key) =
            key_unawaited u (phase_at vips u) false (nat_lt n.taken s.controller.mark) n.version (is_marked l bits n.key) (unawaited y refl n w p same) old in (
              subst (λ z. IsOfWord (vip_at (slice_set vips u.vip (phase_word u y)) z) n.version) (sym same)
                  (subst (λ z. IsOfWord z n.version) (sym (stored_word s i u y q)) (stored_of s i u y q n.version of (unreplaced y refl n w p same))),
              of_update update n.key (λ w. EntryMarked l bits (slice_set vips u.vip (phase_word u y)) (job.Draw (vip_draw u y)) s.controller.mark w n) (λ w is its.
                  subst (λ w. EntryMarked l bits (slice_set vips u.vip (phase_word u y)) (job.Draw (vip_draw u y)) s.controller.mark w n) (same_Some u w (sym own ∙ is))
                  (subst (λ p. KeyMarked u p (is_settling Recording (job.Draw (vip_draw u y))) (nat_lt n.taken s.controller.mark) n.version (is_marked l bits n.key)) (sym (stored_phase s i u y q))
                  (key_awaits u y (is_settling Recording (job.Draw (vip_draw u y))) (nat_lt n.taken s.controller.mark) n.version (is_marked l bits n.key)
                  (stored_key s i u y q n.version (is_marked l bits n.key) of (λ p e. subst (λ z. KeyMarked u z false false n.version (is_marked l bits n.key)) e free))))),
            )
        at (inr other) = (
          subst (λ z. IsOfWord z n.version) (sym (get_or-set_other vips u.vip n.key.vip (phase_word u y) (steady 0) other)) (h p).0,
          of_update update n.key (λ w. EntryMarked l bits (slice_set vips u.vip (phase_word u y)) (job.Draw (vip_draw u y)) s.controller.mark w n)
              (λ w is its. absurd (other (its ∙ ap (λ z. z.vip) (same_Some w u (sym is ∙ own))))),
        )

    stored_kept : AllByRecursion (PendingMarked l bits update (slice_set vips u.vip (phase_word u y)) (job.Draw (vip_draw u y)) s.controller.mark) es
    stored_kept =
        all_both (Waited y) (PendingMarked l bits update vips (job.Store (store.Vip u y)) s.controller.mark)
        (PendingMarked l bits update (slice_set vips u.vip (phase_word u y)) (job.Draw (vip_draw u y)) s.controller.mark) stored_entry es (each_waited y waited)
        (pending_at (job.Store (store.Vip u y)) q)

  -- ---- the filter is cleared

  cleared_kept : (after : ℕ → ℕ) (o : Option PoolUpdate) (m : Job) (mark : ℕ) → ((u : PoolUpdate) → o ≡ Some u → phase_at vips u ≡ Steady)
      → AllByRecursion (PendingMarked l after o vips m mark) es
  cleared_kept after o m mark steady =
      all_then Is (PendingMarked l after o vips m mark)
      (λ n h p. (
        (h p).0,
        of_update o n.key (λ u. EntryMarked l after vips m mark u n)
            (λ u is own. key_steady u (phase_at vips u) (is_settling Recording m) (nat_lt n.taken mark) n.version (is_marked l after n.key) (steady u is)),
      )) es
      i.filter.filter.pending

  -- ---- a phase is drained for

  module _ (pipe count : ℕ) (u : PoolUpdate) (y : Phase) (q : s.controller.job ≡ job.Drain pipe count (wait.Comes u y)) where
    abbrev here : Job
    here = job.Drain pipe count (wait.Comes u y)

    abbrev x : ℕ
    x = s.words (ring_cell l pipe (ring_count s.controller.rings pipe).words)

    abbrev after : Book
    after = book_next s.config s.controller here x

    at_phase : AtPhase update vips u y
    at_phase = subst (JobAt s.config update vips) q i.update.update.phase

    phase : phase_at vips u ≡ y
    phase = ap (λ z. z.phase) at_phase.1 ∙ phase_is u y

    left : All here after.entries
    left = book_kept here q (pending_at here q)

    -- while the wait isn't over the mark stays
    mark_stays : (done : Bool) → done ≡ false → (taken : ℕ) → marked done (wait.Comes u y) taken s.controller.mark ≡ s.controller.mark
    mark_stays done e taken = at y
      where
        by : (done : Bool) → done ≡ false → (if done then taken else s.controller.mark) ≡ s.controller.mark
        by true e = cc
        by false e = refl

        at : (z : Phase) → marked done (wait.Comes u z) taken s.controller.mark ≡ s.controller.mark
        at Steady = refl
        at Recording = by done e
        at Holding = refl
        at Transit = refl

    undone : is_ring_done l count x ≡ false → is_wait_done l pipe count x ≡ false
    undone e = ap (λ b. b && not (has_next l pipe)) e

    further : has_next l pipe ≡ true → is_wait_done l pipe count x ≡ false
    further e = at (is_ring_done l count x) (has_next l pipe) e
      where
        at : (a b : Bool) → b ≡ true → (a && not b) ≡ false
        at true true e = refl
        at false true e = refl
        at a false e = cc

    over : is_ring_done l count x ≡ true → has_next l pipe ≡ false → is_wait_done l pipe count x ≡ true
    over a b = ap (λ c. c && not (has_next l pipe)) a ∙ ap not b

    -- all of the entries were taken before the mark that is set now
    before_mark : AllByRecursion (λ n. n.taken < after.taken) after.entries
    before_mark = at s.controller.book after (takes s.config s.controller (ended_by here) pipe x).book (taken_below 0 s.controller.book.taken es i.shape.book.rising)
      where
        at : (b d : Book) → TakesBook l s.controller.numbers (ended_by here) x b d → AllByRecursion (λ n. n.taken < b.taken) b.entries
            → AllByRecursion (λ n. n.taken < d.taken) d.entries
        at b d (same_book u) h = h
        at b d (learned_book w read kind c f) h =
            all_more (λ n. n.taken < b.taken + 1) b.entries (fresh w.key w.version b.taken ∷ [])
            (all_then (λ n. n.taken < b.taken) (λ n. n.taken < b.taken + 1) (λ n g. omega (arith, g)) b.entries h) (omega arith, tt)
        at b d (closed_book w read kind c) h =
            changed_all (λ n. n.taken < b.taken) (λ n. n.taken < b.taken) closed w.key (λ e q g. g) (λ e q g. g) b.entries h

    over_recording : y ≡ Recording → AllByRecursion (PendingMarked l bits update vips job.Free after.taken) after.entries
    over_recording e =
        all_both (λ n. n.taken < after.taken) (PendingMarked l bits update vips here s.controller.mark) (PendingMarked l bits update vips job.Free after.taken)
        (λ n b h p. (
          (h p).0,
          of_update update n.key (λ w. EntryMarked l bits vips job.Free after.taken w n) (λ w is its.
              let same : u ≡ w = same_Some u w (sym at_phase.0 ∙ is) in
              subst (λ w. EntryMarked l bits vips job.Free after.taken w n) same
              (subst (λ p. KeyMarked u p false (nat_lt n.taken after.taken) n.version (is_marked l bits n.key)) (sym (phase ∙ e))
              (λ a c. absurd (true≢false (sym (awaited n b) ∙ c))))),
        )) after.entries before_mark left
      where
        awaited : (n : Entry) → n.taken < after.taken → nat_lt n.taken after.taken ≡ true
        awaited n b = grind (arith, nat_tests)

    over_kept : (z : Phase) → y ≡ z → MayDrain (wait.Comes u z)
        → AllByRecursion (PendingMarked l bits update vips (waited_phase u z) (marked true (wait.Comes u z) after.taken s.controller.mark)) after.entries
    over_kept Steady e m = absurd m
    over_kept Holding e m = absurd m
    over_kept Recording e m = over_recording e
    over_kept Transit e m = entry_settles here job.Free (λ t. ap (λ z. is_settling Recording (job.Drain pipe count (wait.Comes u z))) e) after.entries left

    drains : (m : Job) → Goes s.config s.controller x here m
        → AllByRecursion (PendingMarked l bits update vips m (mark_next s.config s.controller here x)) after.entries
    drains m (go.drain_stays d c w a) =
        subst (λ k. AllByRecursion (PendingMarked l bits update vips (job.Drain pipe (count + 1) (wait.Comes u y)) k) after.entries) (sym (mark_stays (is_wait_done l pipe count x) (undone a) after.taken))
        (entry_settles here (job.Drain pipe (count + 1) (wait.Comes u y)) (λ e. e) after.entries left)
    drains m (go.drain_next d c w a b) =
        subst (λ k. AllByRecursion (PendingMarked l bits update vips (job.Drain (pipe + 1) 0 (wait.Comes u y)) k) after.entries) (sym (mark_stays (is_wait_done l pipe count x) (further b) after.taken))
        (entry_settles here (job.Drain (pipe + 1) 0 (wait.Comes u y)) (λ e. e) after.entries left)
    drains m (go.drain_last d c w a b) =
        subst (λ t. AllByRecursion (PendingMarked l bits update vips (waited_phase u y) (marked t (wait.Comes u y) after.taken s.controller.mark)) after.entries) (sym (over a b))
        (over_kept y refl (subst (JobFits l) q i.shape.controller.job).2)

  -- ---- every step

  job_kept : (j : Job) → s.controller.job ≡ j → AfterJob PendingKept s j (job_op s.config s.controller j)
  job_kept job.Free q = tt
  job_kept (job.Store (store.Vip u y)) q = stored_kept u y q
  job_kept (job.Store (store.Filter u index)) q = at (is_last_filter l index)
    where
      steady : (b : Bool) (w : PoolUpdate) → (if b then None else update) ≡ Some w → phase_at vips w ≡ Steady
      steady true w e = cc
      steady false w e = clearing_phase s i u index q w e

      at : (b : Bool)
          → AllByRecursion (PendingMarked l (bit_words (rewritten s.words (name.Filter index) 0)) (if b then None else update) vips (if b then job.Free else job.Store (store.Filter u (index + 1))) s.controller.mark) es
      at b = cleared_kept (bit_words (rewritten s.words (name.Filter index) 0)) (if b then None else update) (if b then job.Free else job.Store (store.Filter u (index + 1))) s.controller.mark (steady b)
  job_kept (job.Drain pipe count (wait.Comes u y)) q =
      drains pipe count u y q (job_next s.config s.controller (job.Drain pipe count (wait.Comes u y)) (x pipe count u y q))
      (goes s.config s.controller (x pipe count u y q) (job.Drain pipe count (wait.Comes u y)))
  job_kept j q = plain_kept j (job_op s.config s.controller j) tt (job_bits s j tt) (book_kept j q (pending_at j q))

  begins_kept : PendingKept (begun_core s)
  begins_kept =
      begun_by s.config s.controller (λ c. AllByRecursion (PendingMarked l bits c.update c.vips c.job c.mark) c.book.entries) i.filter.filter.pending (λ q t g. by q t g)
    where
      by : s.controller.job ≡ job.Free → (t : Start) → Begins s.config s.controller t → AllByRecursion (PendingMarked l bits t.update vips t.job t.mark) es
      by q t (begin.changes g rest number none a b c) =
          cleared_kept bits (Some (update_to s.controller g number)) (job.Store (store.Member (update_to s.controller g number) 0)) 0
          (λ u is. i.update.update.others u.vip (subst (λ o. IsAside o u.vip) (sym none) tt))
      by q t g = entry_settles job.Free t.job (λ e. refl) es (pending_at job.Free q)

pub pending_put : (s : Core) (p : Put) → s.controller.job ≡ job.Free → Invariant s → PendingKept (put_core s p)
pending_put s p free i =
    entry_settles s i job.Free (job.Draw (draw.Reserved p)) (λ e. refl) s.controller.book.entries (pending_at s i job.Free free)

-- ---- every event

pub pending_keep : Keeps IsPacket Invariant PendingKept
pending_keep = record {
  stages = λ s p v at q e i h. stage_kept s i p v q at e;
  begins = λ s i h. begins_kept s i;
  jobs = λ s j q b i h. job_kept s i j q;
  enters = λ s p v packet q r u n a i h. h;
  clocks = λ s ms q i h. h;
  refusals = λ s q i h. h;
}

pub pending_part : (s : Core) → Invariant s → PendingKept s
pending_part s i = i.filter.filter.pending

pub pending_open : OpensWith PendingKept
unfolding opening_controller
pending_open k f = tt
