-- What steps make of the reports in rings, and of an opener whose report is stored.
use Rattle.std.proofs.Common.{◌≡◌, ℕ, ◌%◌, Bool, true, false, ◌&&◌, ◌⊎◌, [], if◌then◌else◌, ◌==◌, slice_get, Some, sym, refl, ap, ◌∙◌, subst, inl, inr, arith}
use Rattle.std.proofs.lemmas.Bool.Decides.{nat_tests}
use Rattle.std.proofs.lemmas.Option.{same_Some}
use Rattle.sr_base.specs.Key.{KeyView}
use Rattle.sr_base.specs.RingWord.{packed_ring}
use Rattle.sr_base.specs.declared.kind.Kind.{Kind}
use Rattle.sr_base.specs.declared.kind.Kind.TheVariants.{Opener}
use Rattle.sr_base.specs.declared.place.Place.{Place}
use Rattle.sr_base.specs.declared.ring_word.RingKind.{RingKind}
use Rattle.sr_base.specs.declared.ring_word.RingKind.TheVariants.{Learn, Punt, Close}
use Rattle.sr_base.specs.declared.ring_word.RingWord.{RingWord}
use Rattle.sr_hash.specs.Uses.{is_place_of}
use Rattle.sr_inv_facts.specs.Doing.{MissedReserved}
use Rattle.sr_inv_facts.specs.Flying.{OnLeg, OnUnmatched}
use Rattle.sr_inv_facts.specs.InMatching.{Unmatched}
use Rattle.sr_inv_facts.specs.InShape.{FlightFits, StageFits, VerdictFits}
use Rattle.sr_inv_facts.specs.Invariant.{Invariant}
use Rattle.sr_inv_facts.specs.Readings.{IfLearn, In, Speaks, entry_words}
use Rattle.sr_inv_matching.proofs.Unmatching.{opener_has}
use Rattle.sr_law.specs.declared.verdict.Verdict.{Verdict}
use Rattle.sr_machine.proofs.Written.{report_read}
use Rattle.sr_machine.specs.Core.{Core}
use Rattle.sr_machine.specs.Jobs.{job_op}
use Rattle.sr_machine.specs.Keeping.{AfterJob, AfterStage}
use Rattle.sr_machine.specs.Pipe.{pipe_op}
use Rattle.sr_machine.specs.Reads.{read_report, says}
use Rattle.sr_machine.specs.Stages.{report_by, report_of}
use Rattle.sr_machine.specs.declared.flight.Flight.{Flight}
use Rattle.sr_machine.specs.declared.job.Job.{Job}
use Rattle.sr_machine.specs.declared.leg.Leg.TheVariants.{Chosen, Judged}
use Rattle.sr_machine.specs.declared.pipe_view.PipeView.{PipeView}
use Rattle.sr_machine.specs.declared.stage.Stage.{Stage}
use Rattle.sr_machine.specs.declared.stage.Stage.TheVariants.{Idle, Fly}
use Rattle.sr_machine.specs.declared.job.Job.TheVariants as job
use Rattle.sr_machine.specs.declared.store.Store.TheVariants as store
use Rattle.sr_machine.specs.declared.leg.Last.TheVariants as last
use Rattle.sr_machine.specs.declared.leg.Load.TheVariants as load
use Rattle.sr_machine.specs.declared.name.Name.TheVariants as name
use Rattle.sr_law.specs.declared.verdict.Verdict.TheVariants as verdict

pub if_learn : (kind : RingKind) (P Q : Type 0) → (P → Q) → IfLearn kind P → IfLearn kind Q
if_learn Learn P Q f h = f h
if_learn Punt P Q f h = tt
if_learn Close P Q f h = tt

-- ---- a pipe's step

module _ (s : Core) (i : Invariant s) (p : ℕ) (v : PipeView) (q : slice_get s.pipes p ≡ Some v) where
  -- the report that the pipe stores, and where
  pub record Stores (n c x : ℕ) : Type 0 where
    pub flight : Flight
    pub verdict : Verdict
    pub stage : v.stage ≡ Fly flight (Judged verdict last.Push)
    pub ring : n ≡ v.number
    pub cell : c ≡ v.pushed % s.config.layout.shape.ring
    pub word : x ≡ report_of flight verdict

  -- a word of a ring is the one that was, or this report
  abbrev pub RingsAre : Core → Type 0
  RingsAre t = (n c : ℕ) → (t.words (name.Ring n c) ≡ s.words (name.Ring n c)) ⊎ Stores n c (t.words (name.Ring n c))

  pub rings_stage : (a : Stage) → v.stage ≡ a → AfterStage RingsAre s p v a (pipe_op s.config.layout v a)
  rings_stage Idle e = tt
  rings_stage (Fly f (Judged u last.Push)) e = λ n c. at n c (v.number == n) ((v.pushed % s.config.layout.shape.ring) == c) refl refl
    where
      at : (n c : ℕ) (a b : Bool) → (v.number == n) ≡ a → ((v.pushed % s.config.layout.shape.ring) == c) ≡ b
          → ((if a && b then report_of f u else s.words (name.Ring n c)) ≡ s.words (name.Ring n c))
          ⊎ Stores n c (if a && b then report_of f u else s.words (name.Ring n c))
      at n c true true g h = inr (record {
        flight = f;
        verdict = u;
        stage = e;
        ring = grind (arith, nat_tests);
        cell = grind (arith, nat_tests);
        word = refl;
      })
      at n c true false g h = inl refl
      at n c false b g h = inl refl
  rings_stage (Fly f (Chosen n load.Head)) e = λ n c. inl refl
  rings_stage a e = λ n c. inl refl

  -- a report of what was learned is that of an opener that was sent
  pub own_report : (n c x : ℕ) (r : RingWord) → Stores n c x → read_report s.config.layout x ≡ Some r → (P : KeyView → ℕ → Type 0)
      → ((f : Flight) (server version pool : ℕ) → v.stage ≡ Fly f (Judged (verdict.To server version pool) last.Push) → f.packet.kind ≡ Opener → P f.packet.key version)
      → IfLearn r.kind (P r.key r.version)
  own_report n c x r st read P h =
      let f = st.flight in
      let u = st.verdict in
      let fits = subst (StageFits s.config.layout) st.stage (i.shape.pipes.stage p v q) in
      at f st.stage f.packet.kind refl u refl fits.1.0 (ap (read_report s.config.layout) (sym st.word) ∙ read) fits.0
    where
      at : (f : Flight) → v.stage ≡ Fly f (Judged st.verdict last.Push) → (kind : Kind) → f.packet.kind ≡ kind → (u : Verdict) → st.verdict ≡ u → VerdictFits s.config.layout u
          → read_report s.config.layout (packed_ring (report_by f.packet.key kind u)) ≡ Some r → FlightFits s.config.layout f
          → IfLearn r.kind (P r.key r.version)
      at f e Opener k (verdict.To server version pool) same z g fits =
          let w : RingWord = record { kind = Learn; version = version; key = f.packet.key } in
          subst (λ y. IfLearn y.kind (P y.key y.version)) (same_Some w r (sym (report_read s.config.layout w (record { key = fits.packet.key; version = omega (arith, z.1, i.shape.config.layout.versions.1); tells = tt }) fits.packet.vip) ∙ g))
          (h f server version pool (e ∙ ap (λ y. Fly f (Judged y last.Push)) same) k)
      at f e Opener k u same z g fits =
          let w : RingWord = record { kind = Punt; version = 0; key = f.packet.key } in
          subst (λ y. IfLearn y.kind (P y.key y.version)) (same_Some w r (sym (report_read s.config.layout w (record { key = fits.packet.key; version = omega arith; tells = refl }) fits.packet.vip) ∙ g)) tt
      at f e kind k u same z g fits =
          let w : RingWord = record { kind = Close; version = 0; key = f.packet.key } in
          subst (λ y. IfLearn y.kind (P y.key y.version)) (same_Some w r (sym (report_read s.config.layout w (record { key = fits.packet.key; version = omega arith; tells = refl }) fits.packet.vip) ∙ g)) tt

  -- what speaks to the key of an opener that was sent, it may have missed
  pub sent_missed : (f : Flight) (server version pool : ℕ) → v.stage ≡ Fly f (Judged (verdict.To server version pool) last.Push) → f.packet.kind ≡ Opener
      → (place : Place) → is_place_of s.config.layout.shape f.packet.key place ≡ true
      → Speaks (says s.config.layout place f.packet.key (entry_words s.words place)) → MissedReserved s.controller.job p f.entered place
  sent_missed f server version pool e o place own sp =
      at (opener_has f.packet.kind _ o (subst (λ z. OnLeg z (λ f leg. OnUnmatched f leg (Unmatched s.config.layout (entry_words s.words) s.controller.job p f))) e (i.matching.matching.unmatched p v q)) place own sp)
    where
      at : In place [] ⊎ MissedReserved s.controller.job p f.entered place → MissedReserved s.controller.job p f.entered place
      at (inl n) = absurd n
      at (inr m) = m

-- ---- the controller's step

-- a word of a ring is the one that was, or is taken
abbrev pub RingsFall : Core → Core → Type 0
RingsFall s t = (n c : ℕ) → (t.words (name.Ring n c) ≡ s.words (name.Ring n c)) ⊎ (t.words (name.Ring n c) ≡ 0)

swapped : (words : ℕ) (b : Bool) → ((if b then 0 else words) ≡ words) ⊎ ((if b then 0 else words) ≡ 0)
swapped words true = inr refl
swapped words false = inl refl

pub rings_job : (s : Core) (j : Job) → AfterJob (RingsFall s) s j (job_op s.config s.controller j)
rings_job s job.Free = tt
rings_job s (job.Drain pipe count w) = λ n c. swapped (s.words (name.Ring n c)) _
rings_job s (job.Look pipe) = λ n c. swapped (s.words (name.Ring n c)) _
rings_job s (job.Store (store.Down x)) = λ n c. inl refl
rings_job s j = λ n c. inl refl
