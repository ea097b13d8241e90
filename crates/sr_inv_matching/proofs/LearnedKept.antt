-- No word stands where no ring is, and no place says to a key that was learned that an entry is live.
use Rattle.std.proofs.Common.{◌≡◌, ℕ, ◌≤◌, Bool, true, false, true≢false, ◌⊎◌, if◌then◌else◌, slice_get, Some, None, Option, sym, refl, ap, ◌∙◌, subst, inl, inr, arith}
use Rattle.std.proofs.lemmas.Bool.Decides.{nat_tests}
use Rattle.std.proofs.lemmas.Option.{slice_get_within}
use Rattle.std.proofs.lemmas.Nat.{mod_below}
use Rattle.sr_base.proofs.Sameness.{same_place-true}
use Rattle.sr_base.specs.Layout.{LayoutView}
use Rattle.sr_base.specs.Place.{same_place}
use Rattle.sr_base.specs.declared.place.Place.{Place}
use Rattle.sr_base.specs.declared.ring_word.RingWord.{RingWord}
use Rattle.sr_hash.specs.Uses.{is_place_of}
use Rattle.sr_inv_facts.proofs.Ranges.{PutFits, put_fits, version_below}
use Rattle.sr_inv_facts.proofs.Taking.{none_reported}
use Rattle.sr_inv_facts.specs.Fitted.{IsPacket}
use Rattle.sr_inv_facts.specs.InJobs.{JobHolds, PutHolds, seen}
use Rattle.sr_inv_facts.specs.InMatching.{IsApart, IsUnspoken, Judged, LearnedAreUnspoken, RingsEnd}
use Rattle.sr_inv_facts.specs.Invariant.{Invariant}
use Rattle.sr_inv_facts.specs.Laws.{OpensWith}
use Rattle.sr_inv_facts.specs.Readings.{EachLearn, EachReport, IfLearn, OnReport, SpeaksLive, entry_words, ring_words}
use Rattle.sr_inv_matching.proofs.Reports.{RingsAre, RingsFall, Stores, if_learn, own_report, rings_job, rings_stage, sent_missed}
use Rattle.sr_inv_matching.proofs.Saying.{empty_silent, speaks_live, live_speaks, missed_reserved, reserved_not_live}
use Rattle.sr_inv_matching.proofs.Stepping.{stage_entries}
use Rattle.sr_inv_matching.proofs.UnmatchedKept.{LeavesEntries}
use Rattle.sr_machine.specs.Core.{Core, printed}
use Rattle.sr_machine.specs.Deciding.{is_withdrawn, version_for}
use Rattle.sr_machine.specs.Jobs.{job_op}
use Rattle.sr_machine.specs.Keeping.{AfterJob, AfterStage, Keeps}
use Rattle.sr_machine.specs.Opening.{opening_words}
use Rattle.sr_machine.specs.Ops.{op_words}
use Rattle.sr_machine.specs.Pipe.{pipe_op}
use Rattle.sr_machine.specs.Reads.{live_word, read_report, reserved_word, says, stands_for}
use Rattle.sr_machine.specs.Stores.{judged_word}
use Rattle.sr_machine.specs.declared.flight.Flight.{Flight}
use Rattle.sr_machine.specs.declared.job.Job.{Job}
use Rattle.sr_machine.specs.declared.op.Op.{Op}
use Rattle.sr_machine.specs.declared.pipe_view.PipeView.{PipeView}
use Rattle.sr_machine.specs.declared.put.Put.{Put}
use Rattle.sr_machine.specs.declared.stage.Stage.{Stage}
use Rattle.sr_machine.specs.declared.stage.Stage.TheVariants.{Fly}
use Rattle.sr_base.specs.declared.kind.Kind.TheVariants.{Opener}
use Rattle.sr_base.specs.declared.ring_word.RingKind.{RingKind}
use Rattle.sr_base.specs.declared.ring_word.RingKind.TheVariants.{Learn, Punt, Close}
use Rattle.sr_machine.specs.declared.leg.Leg.TheVariants as leg
use Rattle.sr_machine.specs.declared.leg.Last.TheVariants as last
use Rattle.sr_law.specs.declared.verdict.Verdict.TheVariants as verdict
use Rattle.sr_machine.specs.declared.job.Job.TheVariants as job
use Rattle.sr_machine.specs.declared.name.Name.TheVariants as name
use Rattle.sr_machine.specs.declared.store.Store.TheVariants as store

-- ---- where no ring is

module _ (s : Core) (i : Invariant s) where
  stage_ends : (p : ℕ) (v : PipeView) (q : slice_get s.pipes p ≡ Some v) (a : Stage) (o : Option Op) → AfterStage (RingsAre s i p v q) s p v a o
      → AfterStage RingsEnd s p v a o
  stage_ends p v q a None h = tt
  stage_ends p v q a (Some o) h = λ n c far. at n c far (h n c)
    where
      t : ℕ → ℕ → ℕ
      t = ring_words (op_words s.words o)

      at : (n c : ℕ) → (s.config.layout.shape.pipes ≤ n) ⊎ (s.config.layout.shape.ring ≤ c)
          → (t n c ≡ s.words (name.Ring n c)) ⊎ Stores s i p v q n c (t n c) → t n c ≡ 0
      at n c far (inl same) = same ∙ i.matching.matching.beyond n c far
      at n c far (inr r) = absurd (near far)
        where
          near : (s.config.layout.shape.pipes ≤ n) ⊎ (s.config.layout.shape.ring ≤ c) → ⊥
          near (inl h) = omega (arith, slice_get_within s.pipes p v q, i.shape.pipes.count, i.shape.pipes.number p v q, r.ring)
          near (inr h) = omega (arith, r.cell, mod_below v.pushed s.config.layout.shape.ring (omega (arith, i.shape.config.layout.ring.0)))

  job_ends : (j : Job) (o : Option Op) → AfterJob (RingsFall s) s j o → AfterJob RingsEnd s j o
  job_ends j None h = tt
  job_ends j (Some o) h = λ n c far. at n c far (h n c)
    where
      at : (n c : ℕ) → (s.config.layout.shape.pipes ≤ n) ⊎ (s.config.layout.shape.ring ≤ c)
          → (op_words s.words o (name.Ring n c) ≡ s.words (name.Ring n c)) ⊎ (op_words s.words o (name.Ring n c) ≡ 0)
          → op_words s.words o (name.Ring n c) ≡ 0
      at n c far (inl same) = same ∙ i.matching.matching.beyond n c far
      at n c far (inr none) = none

pub ends_keep : Keeps IsPacket Invariant RingsEnd
ends_keep = record {
  stages = λ s p v at q e i h. stage_ends s i p v q at (pipe_op s.config.layout v at) (rings_stage s i p v q at e);
  begins = λ s i h. h;
  jobs = λ s j q b i h. job_ends s i j (job_op s.config s.controller j) (rings_job s j);
  enters = λ s p v packet q r u n a i h. h;
  clocks = λ s ms q i h. h;
  refusals = λ s q i h. h;
}

pub ends_open : OpensWith RingsEnd
unfolding opening_words
ends_open k f n c far = refl

-- ---- keys that were learned

-- a report that the words tell now, they told before
pub old_report : (l : LayoutView) (x y : ℕ) (P : RingWord → Type 0) → (x ≡ y) ⊎ (x ≡ 0) → OnReport l y P → OnReport l x P
old_report l x y P (inl same) h w read = h w (ap (read_report l) (sym same) ∙ read)
old_report l x y P (inr none) h w read = absurd (none_reported l x w (grind (arith, nat_tests)) read)

module _ (s : Core) (i : Invariant s) where
  abbrev l : LayoutView
  l = s.config.layout

  abbrev w : Place → ℕ
  w = entry_words s.words

  -- no place speaks live to an opener that was sent
  sent_unspoken : (p : ℕ) (v : PipeView) (q : slice_get s.pipes p ≡ Some v) (f : Flight) (server version pool : ℕ)
      → v.stage ≡ Fly f (leg.Judged (verdict.To server version pool) last.Push) → f.packet.kind ≡ Opener → IsUnspoken l w f.packet.key
  sent_unspoken p v q f server version pool e o place own sp =
      let r = missed_reserved s i s.controller.job p f.entered place refl (sent_missed s i p v q f server version pool e o place own (speaks_live (says l place f.packet.key (w place)) sp)) in
      reserved_not_live l i.shape.config.layout r.put.place r.put.key f.packet.key r.fits.key.is_key
      (subst (λ x. SpeaksLive (says l r.put.place f.packet.key x)) r.word (subst (λ z. SpeaksLive (says l z f.packet.key (w z))) r.same sp))

  stage_unspoken : (p : ℕ) (v : PipeView) (q : slice_get s.pipes p ≡ Some v) (a : Stage) → v.stage ≡ a → (o : Option Op) → pipe_op l v a ≡ o
      → AfterStage (RingsAre s i p v q) s p v a o → AfterStage LearnedAreUnspoken s p v a o
  stage_unspoken p v q a e None g h = tt
  stage_unspoken p v q a e (Some o) g h =
      subst (λ z. EachLearn l t (λ key version. IsUnspoken l z key)) (sym (stage_entries s.words l v a o g)) (λ n c r read. at n c r read (h n c))
    where
      t : ℕ → ℕ → ℕ
      t = ring_words (op_words s.words o)

      at : (n c : ℕ) (r : RingWord) → read_report l (t n c) ≡ Some r → (t n c ≡ s.words (name.Ring n c)) ⊎ Stores s i p v q n c (t n c)
          → IfLearn r.kind (IsUnspoken l w r.key)
      at n c r read (inl same) = i.matching.matching.unlearned n c r (ap (read_report l) (sym same) ∙ read)
      at n c r read (inr st) = own_report s i p v q n c (t n c) r st read (λ key version. IsUnspoken l w key) (λ f server version pool e o. sent_unspoken p v q f server version pool e o)

  -- the same reports at most, of keys that no place speaks to still
  each_unspoken : (t : ℕ → ℕ → ℕ) (after : Place → ℕ) → ((n c : ℕ) → (t n c ≡ s.words (name.Ring n c)) ⊎ (t n c ≡ 0))
      → ((n c : ℕ) (r : RingWord) → read_report l (s.words (name.Ring n c)) ≡ Some r → IfLearn r.kind (IsUnspoken l w r.key) → IfLearn r.kind (IsUnspoken l after r.key))
      → EachLearn l t (λ key version. IsUnspoken l after key)
  each_unspoken t after falls turn n c =
      old_report l (t n c) (s.words (name.Ring n c)) (λ r. IfLearn r.kind (IsUnspoken l after r.key)) (falls n c) (λ r read. turn n c r read (i.matching.matching.unlearned n c r read))

  frame : (j : Job) (o : Option Op) → LeavesEntries s o → AfterJob (RingsFall s) s j o → AfterJob LearnedAreUnspoken s j o
  frame j None same h = tt
  frame j (Some o) same h =
      subst (λ z. EachLearn l (ring_words (op_words s.words o)) (λ key version. IsUnspoken l z key)) (sym same)
      (each_unspoken (ring_words (op_words s.words o)) w h (λ n c r read k. k))

  -- a place is rewritten by what doesn't speak live to them
  stored : (at : Place) (x : ℕ) → ((n c : ℕ) (r : RingWord) → read_report l (s.words (name.Ring n c)) ≡ Some r
      → IfLearn r.kind (is_place_of l.shape r.key at ≡ true → SpeaksLive (says l at r.key x) → ⊥))
      → EachLearn l (ring_words s.words) (λ key version. IsUnspoken l (λ place. if same_place at place then x else w place) key)
  stored at x quiet =
      each_unspoken (ring_words s.words) (λ place. if same_place at place then x else w place) (λ n c. inl refl) (λ n c r read k.
      both r.kind (by r) (quiet n c r read) k)
    where
      both : (kind : RingKind) {P Q R : Type 0} → (P → Q → R) → IfLearn kind P → IfLearn kind Q → IfLearn kind R
      both Learn f p q = f p q
      both Punt f p q = tt
      both Close f p q = tt

      by : (r : RingWord) → (is_place_of l.shape r.key at ≡ true → SpeaksLive (says l at r.key x) → ⊥) → IsUnspoken l w r.key
          → IsUnspoken l (λ place. if same_place at place then x else w place) r.key
      by r n u place own = here (same_place at place) refl
        where
          here : (b : Bool) → same_place at place ≡ b → SpeaksLive (says l place r.key (if b then x else w place)) → ⊥
          here false t sp = u place own sp
          here true t sp =
              let e : at ≡ place = same_place-true at place t in
              n (subst (λ z. is_place_of l.shape r.key z ≡ true) (sym e) own) (subst (λ z. SpeaksLive (says l z r.key x)) (sym e) sp)

  of_each : (kind : RingKind) (P : Type 0) → P → IfLearn kind P
  of_each Learn P h = h
  of_each Punt P h = tt
  of_each Close P h = tt

  emptied : (at : Place) → EachLearn l (ring_words s.words) (λ key version. IsUnspoken l (λ place. if same_place at place then 0 else w place) key)
  emptied at =
      stored at 0 (λ n c r read. of_each r.kind _ (λ own sp. empty_silent l at r.key 0 refl (speaks_live (says l at r.key 0) sp)))

  put_of_job : (j : Job) → s.controller.job ≡ j → JobHolds s.config (seen s.controller) (printed s) j
  put_of_job j e = subst (JobHolds s.config (seen s.controller) (printed s)) e i.jobs.holds.stands

  fits_of : (q : Put) → PutHolds l.shape s.controller.book.entries s.controller.held q → PutFits l q
  fits_of q put = put_fits s.config i.shape.config.layout s.controller i.shape.book i.shape.controller q put

  judged_unspoken : (q : Put) → s.controller.job ≡ job.Store (store.Judge q)
      → AfterJob LearnedAreUnspoken s (job.Store (store.Judge q)) (job_op s.config s.controller (job.Store (store.Judge q)))
  judged_unspoken q e = by (is_withdrawn s.config s.controller q)
    where
      version : ℕ
      version = version_for s.controller.vips s.controller.book.entries q.key

      fits : PutFits l q
      fits = fits_of q (put_of_job (job.Store (store.Judge q)) e).0

      apart : EachReport l (ring_words s.words) (IsApart l q)
      apart = subst (Judged l s.controller.rings (ring_words s.words)) e i.matching.matching.judged

      by : (b : Bool)
          → EachLearn l (ring_words s.words) (λ key n. IsUnspoken l (λ place. if same_place q.place place then judged_word b l q version else w place) key)
      by true = emptied q.place
      by false =
          stored q.place (live_word l q.place q.key version) (λ n c r read.
          if_learn r.kind (is_place_of l.shape r.key q.place ≡ true → stands_for l q.place q.key r.key ≡ false) _ (λ a own sp.
          true≢false (sym (live_speaks l i.shape.config.layout q.place q.key r.key version fits.key.is_key (version_below s.config i.shape.config.layout s.controller i.shape.book i.shape.controller q.key) (speaks_live (says l q.place r.key (live_word l q.place q.key version)) sp)) ∙ a own)) (apart n c r read))

  job_unspoken : (j : Job) → s.controller.job ≡ j → AfterJob LearnedAreUnspoken s j (job_op s.config s.controller j)
  job_unspoken job.Free e = tt
  job_unspoken (job.Store (store.Reserved q)) e =
      let fits = fits_of q (put_of_job (job.Store (store.Reserved q)) e).0 in
      stored q.place (reserved_word l q.place q.key) (λ n c r read. of_each r.kind _ (λ own sp. reserved_not_live l i.shape.config.layout q.place q.key r.key fits.key.is_key sp))
  job_unspoken (job.Store (store.Judge q)) e = judged_unspoken q e
  job_unspoken (job.Store (store.Empty key at y)) e = emptied at
  job_unspoken j e = frame j (job_op s.config s.controller j) refl (rings_job s j)

pub unspoken_keep : Keeps IsPacket Invariant LearnedAreUnspoken
unspoken_keep = record {
  stages = λ s p v at q e i h. stage_unspoken s i p v q at e (pipe_op s.config.layout v at) refl (rings_stage s i p v q at e);
  begins = λ s i h. h;
  jobs = λ s j q b i h. job_unspoken s i j q;
  enters = λ s p v packet q r u n a i h. h;
  clocks = λ s ms q i h. h;
  refusals = λ s q i h. h;
}

pub unspoken_open : OpensWith LearnedAreUnspoken
unfolding opening_words
unspoken_open k f n c r read = absurd (none_reported k.layout 0 r refl read)
