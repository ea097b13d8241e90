-- The keys whose reports wait in rings are in the filter as the phase of their virtual address asks.
use Rattle.std.proofs.Common.{◌≡◌, ℕ, ◌+◌, Bool, true, false, ◌≢◌, ◌⊎◌, List, if◌then◌else◌, slice_get, slice_set, Some, None, Option, sym, refl, ap, ◌∙◌, subst, inl, inr, true≢false, get_or-set_other}
use Rattle.std.proofs.lemmas.Bool.{cases_eq}
use Rattle.std.proofs.lemmas.Option.{same_Some}
use Rattle.sr_base.specs.Key.{KeyView}
use Rattle.sr_base.specs.Layout.{LayoutView}
use Rattle.sr_base.specs.declared.kind.Kind.TheVariants.{Opener}
use Rattle.sr_base.specs.declared.ring_word.RingKind.{RingKind}
use Rattle.sr_base.specs.declared.ring_word.RingKind.TheVariants.{Learn, Punt, Close}
use Rattle.sr_base.specs.declared.ring_word.RingWord.{RingWord}
use Rattle.sr_base.specs.declared.vip_word.Phase.{Phase}
use Rattle.sr_base.specs.declared.vip_word.Phase.TheVariants.{Steady, Recording, Holding, Transit}
use Rattle.sr_base.specs.declared.vip_word.VipWord.{VipWord}
use Rattle.sr_inv_facts.proofs.Beginning.{begun_by}
use Rattle.sr_inv_facts.proofs.DrainedRings.{behind_all}
use Rattle.sr_inv_facts.proofs.Filters.{SetsMore, marked_more, set_more}
use Rattle.sr_inv_facts.proofs.Lists.{of_some}
use Rattle.sr_inv_facts.proofs.Taking.{none_reported}
use Rattle.sr_inv_facts.specs.Fitted.{IsPacket}
use Rattle.sr_inv_facts.specs.InFilter.{BehindPhase, Drained, IsOfWord, KeyMarked, LearnMarked, LearnerMarked, NoneReplaced, OfUpdate, ReportMarked, ReportsKept, is_settling, phase_at}
use Rattle.sr_inv_facts.specs.InShape.{JobFits, MayDrain}
use Rattle.sr_inv_facts.specs.InUpdate.{AtPhase, IsAside, JobAt, UpdateFits}
use Rattle.sr_inv_facts.specs.Invariant.{Invariant}
use Rattle.sr_inv_facts.specs.Laws.{OpensWith}
use Rattle.sr_inv_facts.specs.Readings.{EachLearn, EachReport, IfLearn, bit_words, is_marked, ring_words}
use Rattle.sr_inv_filter.proofs.FilterSteps.{IsPlain, at_update, clearing_phase, job_bits, mark_recorded, of_update, recorded_phase, settles_recording, settles_transit, step_bits, stored_phase, stored_word, storing, update_then}
use Rattle.sr_inv_filter.proofs.LoadedPhases.{LearnerIn, holding_transit, learner_in, learner_of, phase_is, recording_transit, steady_transit}
use Rattle.sr_inv_filter.proofs.Sent.{sent_choice, sent_marked, sent_may, sent_word}
use Rattle.sr_inv_flight.proofs.Steps.{OnOp}
use Rattle.sr_inv_matching.proofs.LearnedKept.{old_report}
use Rattle.sr_inv_matching.proofs.Reports.{RingsAre, RingsFall, Stores, if_learn, own_report, rings_job, rings_stage}
use Rattle.sr_machine.proofs.Following.{goes}
use Rattle.sr_machine.specs.Begins.{Begins}
use Rattle.sr_machine.specs.Core.{Core}
use Rattle.sr_machine.specs.Deciding.{ring_count, vip_at}
use Rattle.sr_machine.specs.Goes.{Goes}
use Rattle.sr_machine.specs.Jobs.{job_next, job_op}
use Rattle.sr_machine.specs.Keeping.{AfterJob, AfterStage, Keeps, begun_core}
use Rattle.sr_machine.specs.Names.{rewritten}
use Rattle.sr_machine.specs.Opening.{opening_words}
use Rattle.sr_machine.specs.Ops.{op_answer, op_name, op_words}
use Rattle.sr_machine.specs.Pipe.{pipe_op}
use Rattle.sr_machine.specs.Reads.{filter_bit, filter_word, read_report, steady}
use Rattle.sr_machine.specs.Stages.{ring_cell}
use Rattle.sr_machine.specs.Starting.{Start, update_to}
use Rattle.sr_machine.specs.Stores.{is_last_filter, phase_word, vip_draw}
use Rattle.sr_machine.specs.Waiting.{has_next, is_ring_done, waited_phase}
use Rattle.sr_machine.specs.declared.flight.Flight.{Flight}
use Rattle.sr_machine.specs.declared.job.Job.{Job}
use Rattle.sr_machine.specs.declared.leg.Leg.TheVariants.{Judged}
use Rattle.sr_machine.specs.declared.name.Name.{Name}
use Rattle.sr_machine.specs.declared.op.Op.{Op}
use Rattle.sr_machine.specs.declared.pipe_view.PipeView.{PipeView}
use Rattle.sr_machine.specs.declared.pool_update.PoolUpdate.{PoolUpdate}
use Rattle.sr_machine.specs.declared.stage.Stage.{Stage}
use Rattle.sr_machine.specs.declared.stage.Stage.TheVariants.{Fly}
use Rattle.sr_inv_facts.specs.Putting.{put_core}
use Rattle.sr_machine.specs.declared.put.Put.{Put}
use Rattle.sr_law.specs.declared.verdict.Verdict.TheVariants as verdict
use Rattle.sr_machine.specs.Begins as begin
use Rattle.sr_machine.specs.Goes as go
use Rattle.sr_machine.specs.declared.draw.Draw.TheVariants as draw
use Rattle.sr_machine.specs.declared.job.Job.TheVariants as job
use Rattle.sr_machine.specs.declared.leg.Last.TheVariants as last
use Rattle.sr_machine.specs.declared.name.Name.TheVariants as name
use Rattle.sr_machine.specs.declared.op.Op.TheVariants as op
use Rattle.sr_machine.specs.declared.store.Store.TheVariants as store
use Rattle.sr_machine.specs.declared.wait.Wait.TheVariants as wait

-- ---- what is said of a key

-- more places are set, in Recording or Holding
pub key_more : (u : PoolUpdate) (p : Phase) (settling awaited : Bool) (n : ℕ) (was is : Bool) → (p ≡ Recording) ⊎ (p ≡ Holding) → (was ≡ true → is ≡ true)
    → KeyMarked u p settling awaited n was
    → KeyMarked u p settling awaited n is
key_more u Steady a b n was is w t h = tt
key_more u Recording a b n was is w t h = λ x y. t (h x y)
key_more u Holding a b n was is w t h = t h
key_more u Transit a b n was is (inl e) t h = absurd (recording_transit (sym e))
key_more u Transit a b n was is (inr e) t h = absurd (holding_transit (sym e))

-- the wait goes on, or another job follows
pub key_settles : (u : PoolUpdate) (p : Phase) (was is awaited : Bool) (n : ℕ) (marked : Bool) → (is ≡ false → was ≡ false)
    → KeyMarked u p was awaited n marked
    → KeyMarked u p is awaited n marked
key_settles u Steady was is a n m t h = tt
key_settles u Recording was is a n m t h = λ x y. h (t x) y
key_settles u Holding was is a n m t h = h
key_settles u Transit was is a n m t h = h

none_settles : (u : PoolUpdate) (p : Phase) (was is : Bool) (n : ℕ) → (is ≡ false → was ≡ false) → NoneReplaced u p was n → NoneReplaced u p is n
none_settles u Steady was is n t h = tt
none_settles u Recording was is n t h = tt
none_settles u Holding was is n t h = tt
none_settles u Transit was is n t h = λ e. h (t e)

-- an opener that was sent
key_sent : (u : PoolUpdate) (p : Phase) (settling : Bool) (w : VipWord) (n : ℕ) (marked : Bool) → u.replaced ≢ u.given → LearnerIn u p settling w n
    → (w.phase ≡ Recording → marked ≡ true) → LearnerMarked u p n marked
    → KeyMarked u p settling false n marked
key_sent u Steady a w n m x h r g = tt
key_sent u Recording a w n m x h r g = λ y z. r (h y)
key_sent u Holding a w n m x h r g = r h
key_sent u Transit a w n m x h r g = ((λ e. absurd (x (sym e ∙ h))), g)

none_sent : (u : PoolUpdate) (p : Phase) (was settling : Bool) (w : VipWord) (n : ℕ) → u.replaced ≢ u.given → LearnerIn u p was w n
    → NoneReplaced u p settling n
none_sent u Steady was a w n x h = tt
none_sent u Recording was a w n x h = tt
none_sent u Holding was a w n x h = tt
none_sent u Transit was a w n x h = λ y e. x (sym e ∙ h)

-- in Steady nothing is said
pub key_steady : (u : PoolUpdate) (p : Phase) (settling awaited : Bool) (n : ℕ) (marked : Bool) → p ≡ Steady → KeyMarked u p settling awaited n marked
key_steady u p a b n m e = subst (λ z. KeyMarked u z a b n m) (sym e) tt

none_steady : (u : PoolUpdate) (p : Phase) (settling : Bool) (n : ℕ) → p ≡ Steady → NoneReplaced u p settling n
none_steady u p a n e = subst (λ z. NoneReplaced u z a n) (sym e) tt

module _ (s : Core) (i : Invariant s) where
  abbrev l : LayoutView
  l = s.config.layout

  abbrev vips : List VipWord
  vips = s.controller.vips

  abbrev update : Option PoolUpdate
  update = s.controller.update

  fits : (u : PoolUpdate) → update ≡ Some u → UpdateFits s.config u
  fits u e = of_some (UpdateFits s.config) update u i.update.update.fits e

  -- ---- a pipe's step

  learn_more : (after : ℕ → ℕ) (key : KeyView) (n : ℕ) (u : PoolUpdate) → (phase_at vips u ≡ Recording) ⊎ (phase_at vips u ≡ Holding)
      → SetsMore (bit_words s.words) after → LearnMarked l (bit_words s.words) vips s.controller.job key n u
      → LearnMarked l after vips s.controller.job key n u
  learn_more after key n u w more h = record {
    marked =
        key_more u (phase_at vips u) (is_settling Recording s.controller.job) false n (is_marked l (bit_words s.words) key) (is_marked l after key) w
        (marked_more (bit_words s.words) after more l key) h.marked;
    moved = h.moved;
  }

  module _ (p : ℕ) (v : PipeView) (q : slice_get s.pipes p ≡ Some v) where
    -- the report of an opener that was sent
    sent_report : (f : Flight) (server version pool : ℕ) → v.stage ≡ Fly f (Judged (verdict.To server version pool) last.Push) → f.packet.kind ≡ Opener
        → ReportMarked l (bit_words s.words) update vips s.controller.job f.packet.key version
    sent_report f server version pool e o =
        let w = sent_word s i p v q f server version pool e o in
        let c = sent_choice s i p v q f server version pool e o in (
          learner_of s i p f.entered f.packet.key.vip f.vip version w c,
          of_update update f.packet.key (LearnMarked l (bit_words s.words) vips s.controller.job f.packet.key version) (λ u is own.
              let h = learner_in s i u p f.entered f.packet.key.vip f.vip version is own w c in
              record {
                marked =
                    key_sent u (phase_at vips u) (is_settling Recording s.controller.job) f.vip version (is_marked l (bit_words s.words) f.packet.key) (fits u is).other h
                    (sent_marked s i p v q f server version pool e o)
                    (at_update update f.packet.key (λ u. LearnerMarked u (phase_at vips u) version (is_marked l (bit_words s.words) f.packet.key)) u
                    (sent_may s i p v q f server version pool e o) is own);
                moved = none_sent u (phase_at vips u) (is_settling Recording s.controller.job) (is_settling Transit s.controller.job) f.vip version (fits u is).other h;
              }),
        )

    stage_frame : (at : Stage) (o : Option Op) → OnOp o (λ o. bit_words (op_words s.words o) ≡ bit_words s.words) → AfterStage (RingsAre s i p v q) s p v at o
        → AfterStage ReportsKept s p v at o
    stage_frame at None b h = tt
    stage_frame at (Some o) b h =
        subst (λ bits. EachLearn l (ring_words (op_words s.words o)) (ReportMarked l bits update vips s.controller.job)) (sym b)
        (λ n c r read. by n c r read (h n c))
      where
        by : (n c : ℕ) (r : RingWord) → read_report l (op_words s.words o (name.Ring n c)) ≡ Some r
            → (op_words s.words o (name.Ring n c) ≡ s.words (name.Ring n c)) ⊎ Stores s i p v q n c (op_words s.words o (name.Ring n c))
            → IfLearn r.kind (ReportMarked l (bit_words s.words) update vips s.controller.job r.key r.version)
        by n c r read (inl same) = i.filter.filter.reports n c r (ap (read_report l) (sym same) ∙ read)
        by n c r read (inr st) =
            own_report s i p v q n c (op_words s.words o (name.Ring n c)) r st read (ReportMarked l (bit_words s.words) update vips s.controller.job) sent_report

    stage_kept : (at : Stage) → v.stage ≡ at → AfterStage ReportsKept s p v at (pipe_op l v at)
    stage_kept (Fly f (Judged w (last.Mark bit rest))) e = λ n c r read.
        if_learn r.kind (ReportMarked l (bit_words s.words) update vips s.controller.job r.key r.version)
        (ReportMarked l (bit_words (op_words s.words (op.Ors (name.Filter (filter_word bit)) (filter_bit bit)))) update vips s.controller.job r.key r.version)
        (λ h. (
          h.0,
          update_then update r.key (LearnMarked l (bit_words s.words) vips s.controller.job r.key r.version)
              (LearnMarked l (bit_words (op_words s.words (op.Ors (name.Filter (filter_word bit)) (filter_bit bit)))) vips s.controller.job r.key r.version)
              (λ u is own k.
              learn_more (bit_words (op_words s.words (op.Ors (name.Filter (filter_word bit)) (filter_bit bit)))) r.key r.version u
              (recorded_phase update vips f.packet.key.vip f.vip (mark_recorded s i p v q f w bit rest e) u is) (set_more (bit_words s.words) bit) k) h.1,
        ))
        (i.filter.filter.reports n c r read)
    stage_kept at e = stage_frame at (pipe_op l v at) (step_bits s v at (λ n. n)) (rings_stage s i p v q at e)

  -- ---- the controller's step

  -- what is said of a report under another job
  learn_settles : (j m : Job) → (is_settling Recording m ≡ false → is_settling Recording j ≡ false)
      → (is_settling Transit m ≡ false → is_settling Transit j ≡ false) → (key : KeyView) (n : ℕ) (u : PoolUpdate)
      → LearnMarked l (bit_words s.words) vips j key n u
      → LearnMarked l (bit_words s.words) vips m key n u
  learn_settles j m a b key n u h = record {
    marked = key_settles u (phase_at vips u) (is_settling Recording j) (is_settling Recording m) false n (is_marked l (bit_words s.words) key) a h.marked;
    moved = none_settles u (phase_at vips u) (is_settling Transit j) (is_settling Transit m) n b h.moved;
  }

  settled_report : (j m : Job) → (is_settling Recording m ≡ false → is_settling Recording j ≡ false)
      → (is_settling Transit m ≡ false → is_settling Transit j ≡ false) → (key : KeyView) (n : ℕ)
      → ReportMarked l (bit_words s.words) update vips j key n
      → ReportMarked l (bit_words s.words) update vips m key n
  settled_report j m a b key n h = (
    h.0,
    update_then update key (LearnMarked l (bit_words s.words) vips j key n) (LearnMarked l (bit_words s.words) vips m key n)
        (λ u is own k. learn_settles j m a b key n u k) h.1,
  )

  -- the reports that are left, as what is said of each changes
  each_report : (o : Op) → ((n c : ℕ) → (op_words s.words o (name.Ring n c) ≡ s.words (name.Ring n c)) ⊎ (op_words s.words o (name.Ring n c) ≡ 0))
      → (Q : KeyView → ℕ → Type 0) → ((key : KeyView) (n : ℕ) → ReportMarked l (bit_words s.words) update vips s.controller.job key n → Q key n)
      → EachLearn l (ring_words (op_words s.words o)) Q
  each_report o h Q t = λ n c.
      old_report l (op_words s.words o (name.Ring n c)) (s.words (name.Ring n c)) (λ r. IfLearn r.kind (Q r.key r.version)) (h n c)
      (λ r read.
      if_learn r.kind (ReportMarked l (bit_words s.words) update vips s.controller.job r.key r.version) (Q r.key r.version) (t r.key r.version)
      (i.filter.filter.reports n c r read))

  plain_kept : (j : Job) (o : Option Op) → IsPlain j → s.controller.job ≡ j → OnOp o (λ o. bit_words (op_words s.words o) ≡ bit_words s.words)
      → AfterJob (RingsFall s) s j o
      → OnOp o (λ o. EachLearn l (ring_words (op_words s.words o)) (ReportMarked l (bit_words (op_words s.words o)) update vips (job_next s.config s.controller j (op_answer o (s.words (op_name o))))))
  plain_kept j None n q b h = tt
  plain_kept j (Some o) n q b h =
      let x = op_answer o (s.words (op_name o)) in
      let m = job_next s.config s.controller j x in
      subst (λ bits. EachLearn l (ring_words (op_words s.words o)) (ReportMarked l bits update vips m)) (sym b)
      (each_report o h (ReportMarked l (bit_words s.words) update vips m) (λ key k r.
      settled_report j m (settles_recording s.config s.controller x j m (goes s.config s.controller x j) n)
      (settles_transit s.config s.controller x j m (goes s.config s.controller x j) n) key k
      (subst (λ z. ReportMarked l (bit_words s.words) update vips z key k) q r)))

  -- ---- a phase is stored

  module _ (u : PoolUpdate) where
    of_steady : (n : ℕ) → IsOfWord (steady u.replaced) n → n ≡ u.replaced
    of_steady n (inl e) = e
    of_steady n (inr (t, e)) = absurd (steady_transit t)

    of_recording : (n : ℕ) → IsOfWord (phase_word u Recording) n → n ≡ u.replaced
    of_recording n (inl e) = e
    of_recording n (inr (t, e)) = absurd (recording_transit t)

    of_holding : (n : ℕ) → IsOfWord (phase_word u Holding) n → n ≡ u.replaced
    of_holding n (inl e) = e
    of_holding n (inr (t, e)) = absurd (holding_transit t)

    pub of_transit : (n : ℕ) → IsOfWord (phase_word u Transit) n → n ≢ u.replaced → n ≡ u.given
    of_transit n (inl e) r = absurd (r e)
    of_transit n (inr (t, e)) r = e

    -- the word before and after a store, and what is said of a report's version by them
    pub stored_of : (y : Phase) → s.controller.job ≡ job.Store (store.Vip u y) → (n : ℕ) → IsOfWord (vip_at vips u.vip) n
        → (y ≡ Steady → n ≢ u.replaced)
        → IsOfWord (phase_word u y) n
    stored_of Steady q n h r =
        let a : AtPhase update vips u Transit = subst (JobAt s.config update vips) q i.update.update.phase in
        inl (of_transit n (subst (λ z. IsOfWord z n) a.1 h) (r refl))
    stored_of Recording q n h r =
        let a = subst (JobAt s.config update vips) q i.update.update.phase in inl (of_steady n (subst (λ z. IsOfWord z n) a.1 h))
    stored_of Holding q n h r =
        let a = subst (JobAt s.config update vips) q i.update.update.phase in inl (of_recording n (subst (λ z. IsOfWord z n) a.1 h))
    stored_of Transit q n h r =
        let a = subst (JobAt s.config update vips) q i.update.update.phase in inl (of_holding n (subst (λ z. IsOfWord z n) a.1 h))

    pub stored_key : (y : Phase) → s.controller.job ≡ job.Store (store.Vip u y) → (n : ℕ) (marked : Bool) → IsOfWord (vip_at vips u.vip) n
        → ((p : Phase) → phase_at vips u ≡ p → KeyMarked u p false false n marked)
        → KeyMarked u y (is_settling Recording (job.Draw (vip_draw u y))) false n marked
    stored_key Steady q n marked h k = tt
    stored_key Recording q n marked h k = λ e. absurd (true≢false e)
    stored_key Holding q n marked h k =
        let a : AtPhase update vips u Recording = subst (JobAt s.config update vips) q i.update.update.phase in
        k Recording (ap (λ z. z.phase) a.1) refl refl
    stored_key Transit q n marked h k =
        let a : AtPhase update vips u Holding = subst (JobAt s.config update vips) q i.update.update.phase in (
          (λ r. k Holding (ap (λ z. z.phase) a.1)),
          (λ g. absurd ((fits u a.0).other (sym (of_holding n (subst (λ z. IsOfWord z n) a.1 h)) ∙ g))),
        )

    stored_none : (y : Phase) (n : ℕ) → NoneReplaced u y (is_settling Transit (job.Draw (vip_draw u y))) n
    stored_none Steady n = tt
    stored_none Recording n = tt
    stored_none Holding n = tt
    stored_none Transit n = λ e. absurd (true≢false e)

    stored_report : (y : Phase) → s.controller.job ≡ job.Store (store.Vip u y) → (key : KeyView) (n : ℕ)
        → ReportMarked l (bit_words s.words) update vips (job.Store (store.Vip u y)) key n
        → ReportMarked l (bit_words s.words) update (slice_set vips u.vip (phase_word u y)) (job.Draw (vip_draw u y)) key n
    stored_report y q key n h = at (cases_eq key.vip u.vip)
      where
        own : update ≡ Some u
        own = storing s i u y q

        here : key.vip ≡ u.vip → LearnMarked l (bit_words s.words) vips (job.Store (store.Vip u y)) key n u
        here same = at_update update key (LearnMarked l (bit_words s.words) vips (job.Store (store.Vip u y)) key n) u h.1 own same

        left : key.vip ≡ u.vip → y ≡ Steady → n ≢ u.replaced
        left same e =
            let a : AtPhase update vips u Transit = subst (JobAt s.config update vips) (q ∙ ap (λ z. job.Store (store.Vip u z)) e) i.update.update.phase in
            subst (λ z. NoneReplaced u z false n) (ap (λ z. z.phase) a.1) (here same).moved refl

        at : (key.vip ≡ u.vip) ⊎ (key.vip ≢ u.vip)
            → ReportMarked l (bit_words s.words) update (slice_set vips u.vip (phase_word u y)) (job.Draw (vip_draw u y)) key n
        at (inl same) =
            let of : IsOfWord (vip_at vips u.vip) n = subst (λ z. IsOfWord (vip_at vips z) n) same h.0 in (
              subst (λ z. IsOfWord (vip_at (slice_set vips u.vip (phase_word u y)) z) n) (sym same)
                  (subst (λ z. IsOfWord z n) (sym (stored_word s i u y q)) (stored_of y q n of (left same))),
              of_update update key (LearnMarked l (bit_words s.words) (slice_set vips u.vip (phase_word u y)) (job.Draw (vip_draw u y)) key n) (λ w is its.
                  let same_update : w ≡ u = same_Some w u (sym is ∙ own) in
                  subst (LearnMarked l (bit_words s.words) (slice_set vips u.vip (phase_word u y)) (job.Draw (vip_draw u y)) key n) (sym same_update) (record {
                    marked =
                        subst (λ p. KeyMarked u p (is_settling Recording (job.Draw (vip_draw u y))) false n (is_marked l (bit_words s.words) key)) (sym (stored_phase s i u y q))
                        (stored_key y q n (is_marked l (bit_words s.words) key) of (λ p e. subst (λ z. KeyMarked u z false false n (is_marked l (bit_words s.words) key)) e (here same).marked));
                    moved = subst (λ p. NoneReplaced u p (is_settling Transit (job.Draw (vip_draw u y))) n) (sym (stored_phase s i u y q)) (stored_none y n);
                  })),
            )
        at (inr other) = (
          subst (λ z. IsOfWord z n) (sym (get_or-set_other vips u.vip key.vip (phase_word u y) (steady 0) other)) h.0,
          of_update update key (LearnMarked l (bit_words s.words) (slice_set vips u.vip (phase_word u y)) (job.Draw (vip_draw u y)) key n)
              (λ w is its. absurd (other (its ∙ ap (λ z. z.vip) (same_Some w u (sym is ∙ own))))),
        )

  -- ---- the filter is cleared

  cleared_report : (bits : ℕ → ℕ) (o : Option PoolUpdate) (m : Job) → ((u : PoolUpdate) → o ≡ Some u → phase_at vips u ≡ Steady) → (key : KeyView) (n : ℕ)
      → ReportMarked l (bit_words s.words) update vips s.controller.job key n
      → ReportMarked l bits o vips m key n
  cleared_report bits o m steady key n h = (
    h.0,
    of_update o key (LearnMarked l bits vips m key n) (λ u is own. record {
      marked = key_steady u (phase_at vips u) (is_settling Recording m) false n (is_marked l bits key) (steady u is);
      moved = none_steady u (phase_at vips u) (is_settling Transit m) n (steady u is);
    }),
  )

  -- ---- a phase is drained for

  both_learn : (r : RingWord) (P Q R : Type 0) → (P → Q → R) → IfLearn r.kind P → IfLearn r.kind Q → IfLearn r.kind R
  both_learn r P Q R t = at r.kind
    where
      at : (kind : RingKind) → IfLearn kind P → IfLearn kind Q → IfLearn kind R
      at Learn p q = t p q
      at Punt p q = tt
      at Close p q = tt

  module _ (pipe count : ℕ) (u : PoolUpdate) (y : Phase) (q : s.controller.job ≡ job.Drain pipe count (wait.Comes u y)) where
    abbrev cell : Name
    cell = ring_cell l pipe (ring_count s.controller.rings pipe).words

    abbrev t : ℕ → ℕ → ℕ
    t = ring_words (rewritten s.words cell 0)

    at_phase : AtPhase update vips u y
    at_phase = subst (JobAt s.config update vips) q i.update.update.phase

    -- the reports that are left
    left : (Q : KeyView → ℕ → Type 0)
        → ((key : KeyView) (n : ℕ) → ReportMarked l (bit_words s.words) update vips (job.Drain pipe count (wait.Comes u y)) key n → Q key n)
        → EachLearn l t Q
    left Q h =
        each_report (op.Swaps cell 0) (rings_job s (job.Drain pipe count (wait.Comes u y))) Q
        (λ key n r. h key n (subst (λ z. ReportMarked l (bit_words s.words) update vips z key n) q r))

    -- and what is said of those behind the drain
    behind : is_ring_done l count (s.words cell) ≡ true → has_next l pipe ≡ false → EachReport l t (BehindPhase l (bit_words s.words) u y)
    behind a b =
        behind_all s i pipe count (wait.Comes u y) q (BehindPhase l (bit_words s.words) u y)
        (subst (Drained l (bit_words s.words) s.controller.rings (ring_words s.words)) q i.filter.filter.drained) a b

    -- what is said of an update's key is said of this one's
    ours : (key : KeyView) (n : ℕ) (j : Job) → LearnMarked l (bit_words s.words) vips j key n u
        → OfUpdate update key (LearnMarked l (bit_words s.words) vips j key n)
    ours key n j h =
        of_update update key (LearnMarked l (bit_words s.words) vips j key n)
        (λ w is own. subst (LearnMarked l (bit_words s.words) vips j key n) (same_Some u w (sym at_phase.0 ∙ is)) h)

    phase : phase_at vips u ≡ y
    phase = ap (λ z. z.phase) at_phase.1 ∙ phase_is u y

    over_recording : y ≡ Recording → (key : KeyView) (n : ℕ)
        → ReportMarked l (bit_words s.words) update vips (job.Drain pipe count (wait.Comes u y)) key n
        → (key.vip ≡ u.vip → is_marked l (bit_words s.words) key ≡ true)
        → ReportMarked l (bit_words s.words) update vips job.Free key n
    over_recording e key n h b = (
      h.0,
      of_update update key (LearnMarked l (bit_words s.words) vips job.Free key n) (λ w is own.
          let same : u ≡ w = same_Some u w (sym at_phase.0 ∙ is) in
          subst (LearnMarked l (bit_words s.words) vips job.Free key n) same (record {
            marked =
                subst (λ p. KeyMarked u p false false n (is_marked l (bit_words s.words) key)) (sym (phase ∙ e)) (λ x z. b (own ∙ ap (λ r. r.vip) (sym same)));
            moved = subst (λ p. NoneReplaced u p false n) (sym (phase ∙ e)) tt;
          })),
    )

    over_transit : y ≡ Transit → (key : KeyView) (n : ℕ)
        → ReportMarked l (bit_words s.words) update vips (job.Drain pipe count (wait.Comes u y)) key n
        → (key.vip ≡ u.vip → n ≢ u.replaced)
        → ReportMarked l (bit_words s.words) update vips job.Free key n
    over_transit e key n h b = (
      h.0,
      of_update update key (LearnMarked l (bit_words s.words) vips job.Free key n) (λ w is own.
          let same : u ≡ w = same_Some u w (sym at_phase.0 ∙ is) in
          let its : key.vip ≡ u.vip = own ∙ ap (λ r. r.vip) (sym same) in
          let old = at_update update key (LearnMarked l (bit_words s.words) vips (job.Drain pipe count (wait.Comes u y)) key n) u h.1 at_phase.0 its in
          subst (LearnMarked l (bit_words s.words) vips job.Free key n) same (record {
            marked =
                subst (λ p. KeyMarked u p false false n (is_marked l (bit_words s.words) key)) (sym (phase ∙ e))
                (subst (λ p. KeyMarked u p (is_settling Recording (job.Drain pipe count (wait.Comes u y))) false n (is_marked l (bit_words s.words) key)) (phase ∙ e) old.marked);
            moved = subst (λ p. NoneReplaced u p false n) (sym (phase ∙ e)) (λ x. b its);
          })),
    )

    over_kept : (z : Phase) → y ≡ z → MayDrain (wait.Comes u z) → is_ring_done l count (s.words cell) ≡ true → has_next l pipe ≡ false
        → EachLearn l t (ReportMarked l (bit_words s.words) update vips (waited_phase u z))
    over_kept Steady e m a b = absurd m
    over_kept Holding e m a b = absurd m
    over_kept Recording e m a b = λ n c r read.
        both_learn r (ReportMarked l (bit_words s.words) update vips (job.Drain pipe count (wait.Comes u y)) r.key r.version)
        (r.key.vip ≡ u.vip → is_marked l (bit_words s.words) r.key ≡ true) (ReportMarked l (bit_words s.words) update vips job.Free r.key r.version) (over_recording e r.key r.version)
        (left (ReportMarked l (bit_words s.words) update vips (job.Drain pipe count (wait.Comes u y))) (λ key n h. h) n c r read)
        (subst (λ z. BehindPhase l (bit_words s.words) u z r) e (behind a b n c r read))
    over_kept Transit e m a b = λ n c r read.
        both_learn r (ReportMarked l (bit_words s.words) update vips (job.Drain pipe count (wait.Comes u y)) r.key r.version)
        (r.key.vip ≡ u.vip → r.version ≢ u.replaced) (ReportMarked l (bit_words s.words) update vips job.Free r.key r.version) (over_transit e r.key r.version)
        (left (ReportMarked l (bit_words s.words) update vips (job.Drain pipe count (wait.Comes u y))) (λ key n h. h) n c r read)
        (subst (λ z. BehindPhase l (bit_words s.words) u z r) e (behind a b n c r read))

    drained_kept : (m : Job) → Goes s.config s.controller (s.words cell) (job.Drain pipe count (wait.Comes u y)) m
        → EachLearn l t (ReportMarked l (bit_words s.words) update vips m)
    drained_kept m (go.drain_stays d c w a) =
        left (ReportMarked l (bit_words s.words) update vips (job.Drain pipe (count + 1) (wait.Comes u y)))
        (λ key n h. settled_report (job.Drain pipe count (wait.Comes u y)) (job.Drain pipe (count + 1) (wait.Comes u y)) (λ e. e) (λ e. e) key n h)
    drained_kept m (go.drain_next d c w a b) =
        left (ReportMarked l (bit_words s.words) update vips (job.Drain (pipe + 1) 0 (wait.Comes u y)))
        (λ key n h. settled_report (job.Drain pipe count (wait.Comes u y)) (job.Drain (pipe + 1) 0 (wait.Comes u y)) (λ e. e) (λ e. e) key n h)
    drained_kept m (go.drain_last d c w a b) = over_kept y refl (subst (JobFits l) q i.shape.controller.job).2 a b

  -- ---- every step

  job_kept : (j : Job) → s.controller.job ≡ j → AfterJob ReportsKept s j (job_op s.config s.controller j)
  job_kept job.Free q = tt
  job_kept (job.Store (store.Vip u y)) q = λ n c r read.
      if_learn r.kind (ReportMarked l (bit_words s.words) update vips s.controller.job r.key r.version)
      (ReportMarked l (bit_words s.words) update (slice_set vips u.vip (phase_word u y)) (job.Draw (vip_draw u y)) r.key r.version)
      (λ h. stored_report u y q r.key r.version (subst (λ z. ReportMarked l (bit_words s.words) update vips z r.key r.version) q h)) (i.filter.filter.reports n c r read)
  job_kept (job.Store (store.Filter u index)) q = λ n c r read. at (is_last_filter l index) r (i.filter.filter.reports n c r read)
    where
      steady : (b : Bool) (w : PoolUpdate) → (if b then None else update) ≡ Some w → phase_at vips w ≡ Steady
      steady true w e = cc
      steady false w e = clearing_phase s i u index q w e

      at : (b : Bool) (r : RingWord) → IfLearn r.kind (ReportMarked l (bit_words s.words) update vips s.controller.job r.key r.version)
          → IfLearn r.kind (ReportMarked l (bit_words (rewritten s.words (name.Filter index) 0)) (if b then None else update) vips (if b then job.Free else job.Store (store.Filter u (index + 1))) r.key r.version)
      at b r h =
          if_learn r.kind (ReportMarked l (bit_words s.words) update vips s.controller.job r.key r.version)
          (ReportMarked l (bit_words (rewritten s.words (name.Filter index) 0)) (if b then None else update) vips (if b then job.Free else job.Store (store.Filter u (index + 1))) r.key r.version)
          (cleared_report (bit_words (rewritten s.words (name.Filter index) 0)) (if b then None else update) (if b then job.Free else job.Store (store.Filter u (index + 1))) (steady b) r.key r.version) h
  job_kept (job.Drain pipe count (wait.Comes u y)) q =
      drained_kept pipe count u y q (job_next s.config s.controller (job.Drain pipe count (wait.Comes u y)) (s.words (ring_cell l pipe (ring_count s.controller.rings pipe).words)))
      (goes s.config s.controller (s.words (ring_cell l pipe (ring_count s.controller.rings pipe).words)) (job.Drain pipe count (wait.Comes u y)))
  job_kept j q = plain_kept j (job_op s.config s.controller j) tt q (job_bits s j tt) (rings_job s j)

  begins_kept : ReportsKept (begun_core s)
  begins_kept =
      begun_by s.config s.controller (λ c. EachLearn l (ring_words s.words) (ReportMarked l (bit_words s.words) c.update c.vips c.job)) i.filter.filter.reports (λ q t g. by q t g)
    where
      by : s.controller.job ≡ job.Free → (t : Start) → Begins s.config s.controller t
          → EachLearn l (ring_words s.words) (ReportMarked l (bit_words s.words) t.update vips t.job)
      by q t (begin.changes g rest number none a b c) = λ n d r read.
          if_learn r.kind (ReportMarked l (bit_words s.words) update vips s.controller.job r.key r.version)
          (ReportMarked l (bit_words s.words) (Some (update_to s.controller g number)) vips (job.Store (store.Member (update_to s.controller g number) 0)) r.key r.version)
          (cleared_report (bit_words s.words) (Some (update_to s.controller g number)) (job.Store (store.Member (update_to s.controller g number) 0))
          (λ u is. i.update.update.others u.vip (subst (λ o. IsAside o u.vip) (sym none) tt)) r.key r.version) (i.filter.filter.reports n d r read)
      by q t g = λ n d r read.
          if_learn r.kind (ReportMarked l (bit_words s.words) update vips s.controller.job r.key r.version) (ReportMarked l (bit_words s.words) update vips t.job r.key r.version)
          (λ h. settled_report job.Free t.job (λ e. refl) (λ e. refl) r.key r.version (subst (λ z. ReportMarked l (bit_words s.words) update vips z r.key r.version) q h))
          (i.filter.filter.reports n d r read)

pub reports_put : (s : Core) (p : Put) → s.controller.job ≡ job.Free → Invariant s → ReportsKept (put_core s p)
reports_put s p free i n d r read =
    let l = s.config.layout in
    let update = s.controller.update in
    let vips = s.controller.vips in
    let m : Job = job.Draw (draw.Reserved p) in
    if_learn r.kind (ReportMarked l (bit_words s.words) update vips s.controller.job r.key r.version) (ReportMarked l (bit_words s.words) update vips m r.key r.version)
    (λ h. settled_report s i job.Free m (λ e. refl) (λ e. refl) r.key r.version (subst (λ z. ReportMarked l (bit_words s.words) update vips z r.key r.version) free h))
    (i.filter.filter.reports n d r read)

-- ---- every event

pub reports_keep : Keeps IsPacket Invariant ReportsKept
reports_keep = record {
  stages = λ s p v at q e i h. stage_kept s i p v q at e;
  begins = λ s i h. begins_kept s i;
  jobs = λ s j q b i h. job_kept s i j q;
  enters = λ s p v packet q r u n a i h. h;
  clocks = λ s ms q i h. h;
  refusals = λ s q i h. h;
}

pub reports_part : (s : Core) → Invariant s → ReportsKept s
reports_part s i = i.filter.filter.reports

pub reports_open : OpensWith ReportsKept
unfolding opening_words
reports_open k f n c r read = absurd (none_reported k.layout 0 r refl read)
