-- Each event keeps an update in its phase.
use Rattle.std.proofs.Common.{◌≡◌, ℕ, zero, suc, ◌+◌, ◌<◌, ◌≤◌, Bool, true, false, ◌≢◌, List, [], ◌∷◌, length, replicate, is_some, if◌then◌else◌, slice_get, slice_index_or, Some, None, Option, unwrap_or, sym, refl, ap, ◌∙◌, subst, inl, inr, arith}
use Rattle.std.proofs.lemmas.Option.{same_Some}
use Rattle.std.specs.List.{AllByRecursion}
use Rattle.sr_base.specs.VipWord.{NextFits}
use Rattle.sr_base.specs.declared.vip_word.Phase.{Phase}
use Rattle.sr_base.specs.declared.vip_word.Phase.TheVariants.{Steady, Recording, Holding, Transit}
use Rattle.sr_base.specs.declared.vip_word.VipWord.{VipWord}
use Rattle.sr_inv_facts.proofs.Beginning.{begun_by}
use Rattle.sr_inv_facts.proofs.Lists.{got_or, of_some}
use Rattle.sr_inv_facts.specs.Fitted.{IsFitted, IsPacket}
use Rattle.sr_inv_facts.specs.InShape.{ControllerFits, JobFits, WordFits}
use Rattle.sr_inv_facts.specs.InUpdate.{AtPhase, IsAside, IsWordOf, JobAt, PhasesHold, UpdateHolds, VersionsHold, standing}
use Rattle.sr_inv_facts.specs.Invariant.{Invariant}
use Rattle.sr_inv_facts.specs.Laws.{OpensWith}
use Rattle.sr_inv_update.proofs.Changes.{change_fits, pool_fits}
use Rattle.sr_inv_update.proofs.Phases.{at_goes, phase_of, phase_stored, update_over}
use Rattle.sr_law.specs.Pools.{pool_of}
use Rattle.sr_law.specs.declared.line.Line.{Line}
use Rattle.sr_machine.proofs.Following.{goes}
use Rattle.sr_machine.specs.Begins.{Begins}
use Rattle.sr_machine.specs.Config.{Config}
use Rattle.sr_machine.specs.Core.{Core, printed}
use Rattle.sr_machine.specs.Deciding.{vip_at}
use Rattle.sr_machine.specs.Jobs.{job_next, job_op, update_next, vips_next}
use Rattle.sr_machine.specs.Keeping.{AfterJob, AfterStage, Keeps, begun_core}
use Rattle.sr_machine.specs.Opening.{opening_controller}
use Rattle.sr_machine.specs.Ops.{op_answer, op_name}
use Rattle.sr_machine.specs.Pipe.{pipe_op}
use Rattle.sr_machine.specs.Reads.{steady}
use Rattle.sr_machine.specs.Starting.{Start, update_to}
use Rattle.sr_machine.specs.Stores.{is_last_filter, phase_word}
use Rattle.sr_machine.specs.declared.controller_view.ControllerView.{ControllerView}
use Rattle.sr_machine.specs.declared.job.Job.{Job}
use Rattle.sr_machine.specs.declared.op.Op.{Op}
use Rattle.sr_machine.specs.declared.pipe_view.PipeView.{PipeView}
use Rattle.sr_machine.specs.declared.pool_update.PoolUpdate.{PoolUpdate}
use Rattle.sr_machine.specs.declared.stage.Stage.{Stage}
use Rattle.sr_update.specs.Numbers.{NumberRows, first_number, is_free, least_free, row_of, state_of}
use Rattle.sr_update.specs.declared.give_change.GiveChange.{GiveChange}
use Rattle.sr_update.specs.declared.number_state.NumberState.{NumberState}
use Rattle.sr_update.specs.declared.number_state.NumberState.TheVariants.{Free, Current, Draining}
use Rattle.sr_inv_facts.specs.Putting.{put_core}
use Rattle.sr_machine.specs.declared.put.Put.{Put}
use Rattle.sr_machine.specs.Begins as begin
use Rattle.sr_machine.specs.declared.draw.Draw.TheVariants as draw
use Rattle.sr_machine.specs.declared.store.Store.TheVariants as store
use Rattle.sr_machine.specs.declared.wait.Wait.TheVariants as wait
use Rattle.sr_machine.specs.declared.job.Job.TheVariants as job

-- ---- the controller's step

phases_go : (k : Config) (c : ControllerView) (x : ℕ) (j : Job) → length c.vips ≡ k.layout.vips → JobFits k.layout j
    → UpdateHolds k c.update c.vips j
    → UpdateHolds k (update_next k c j) (vips_next c j) (job_next k c j x)
phases_go k c x (job.Store (store.Vip u p)) l f h = phase_stored k c.update c.vips u p l h
phases_go k c x (job.Store (store.Filter u index)) l f h = at (is_last_filter k.layout index) refl
  where
    at : (b : Bool) → is_last_filter k.layout index ≡ b
        → UpdateHolds k (if b then None else c.update) c.vips (if b then job.Free else job.Store (store.Filter u (index + 1)))
    at true q = update_over k c.update c.vips u index h
    at false q = record {
      fits = h.fits;
      word = h.word;
      others = h.others;
      phase = subst (λ b. JobAt k c.update c.vips (if b then job.Free else job.Store (store.Filter u (index + 1)))) q (at_goes k c x (job.Store (store.Filter u index)) (job_next k c (job.Store (store.Filter u index)) x) (goes k c x (job.Store (store.Filter u index))) q f h.phase);
    }
phases_go k c x j l f h = record {
  fits = h.fits;
  word = h.word;
  others = h.others;
  phase = at_goes k c x j (job_next k c j x) (goes k c x j) tt f h.phase;
}

after_job : (s : Core) (j : Job) (o : Option Op)
    → ((x : ℕ) → UpdateHolds s.config (update_next s.config s.controller j) (vips_next s.controller j) (job_next s.config s.controller j x))
    → AfterJob PhasesHold s j o
after_job s j None h = tt
after_job s j (Some o) h = h (op_answer o (s.words (op_name o)))

-- ---- what it begins

steady_is : (w : VipWord) → w.phase ≡ Steady → NextFits w.phase w.cur w.next → w ≡ steady w.cur
steady_is w p f =
    let n : w.next ≡ w.cur = subst (λ q. NextFits q w.cur w.next) p f in
    λ i. record { phase = p i; cur = w.cur; next = n i }

word_phase : (u : PoolUpdate) (w : VipWord) (p : Phase) → IsWordOf u w → w.phase ≡ p → p ≢ Steady → w ≡ phase_word u p
word_phase u w p (inl e) q n = absurd (n (sym q ∙ ap (λ w. w.phase) e))
word_phase u w p (inr (r, e)) q n =
    let same : r ≡ p = sym (phase_of u r) ∙ (ap (λ w. w.phase) (sym e) ∙ q) in e ∙ ap (phase_word u) same

-- the least number that passes is one of the row, and passes
pub found_number : (test : ℕ → NumberState → Bool) (base n : ℕ) (row : List NumberState) → first_number test base row ≡ Some n
    → (i : ℕ) × (is : NumberState) × (n ≡ base + i) × (i < length row) × (slice_get row i ≡ Some is) × (test n is ≡ true)
found_number test base n [] e = cc
found_number test base n (st ∷ row) e = at (test base st) refl e (found_number test (base + 1) n row)
  where
    at : (b : Bool) → test base st ≡ b → (if b then Some base else first_number test (base + 1) row) ≡ Some n
        → (first_number test (base + 1) row ≡ Some n
        → (i : ℕ) × (is : NumberState) × (n ≡ (base + 1) + i) × (i < length row) × (slice_get row i ≡ Some is) × (test n is ≡ true))
        → (i : ℕ) × (is : NumberState) × (n ≡ base + i) × (i < length (st ∷ row)) × (slice_get (st ∷ row) i ≡ Some is) × (test n is ≡ true)
    at true q f more =
        let same : base ≡ n = same_Some base n f in
        (0, st, omega (arith, same), omega arith, refl, subst (λ m. test m st ≡ true) same q)
    at false q f more =
        let r = more f in (suc r.0, r.1, omega (arith, r.2), omega (arith, r.3), r.4, r.5)

free_is : (is : NumberState) → is_free is ≡ true → is ≡ Free
free_is Free e = refl
free_is Current e = cc
free_is Draining e = cc

-- the least free number of a virtual address is free, and one of its numbers
pub free_number : (vip n : ℕ) (rows : NumberRows) → least_free vip rows ≡ Some n
    → (state_of vip n rows ≡ Some Free) × (n < length (row_of vip rows))
free_number vip n rows e =
    let r = found_number (λ number. is_free) 0 n (row_of vip rows) e in
    let same : r.0 ≡ n = omega (arith, r.2) in
    (ap (slice_get (row_of vip rows)) (sym same) ∙ (r.4 ∙ ap Some (free_is r.1 r.5)), omega (arith, same, r.3))

row_length : {X : Type 0} (n vip : ℕ) (rows : List (List X)) → AllByRecursion (λ row. length row ≡ n) rows
    → length (slice_index_or rows vip []) ≤ n
row_length n vip [] a = omega arith
row_length n zero (row ∷ rows) a = omega (arith, a.0)
row_length n (suc vip) (row ∷ rows) a = row_length n vip rows a.1

pool_some : (k : Config) → IsFitted k → (vip number : ℕ) → is_some (pool_of k.pools vip number) ≡ true
    → 0 < length (unwrap_or (pool_of k.pools vip number) [])
pool_some k f vip number e = at (pool_of k.pools vip number) refl e
  where
    at : (o : Option (List ℕ)) → pool_of k.pools vip number ≡ o → is_some o ≡ true → 0 < length (unwrap_or o [])
    at None q r = cc
    at (Some pool) q r = omega (arith, (pool_fits k f vip number pool q).some)

module _ (k : Config) (c : ControllerView) (f : IsFitted k) (b : ControllerFits k c) (lines : List Line) (v : VersionsHold k lines c.update c.vips c.numbers c.named c.book.entries c.mark c.job) (free : c.job ≡ job.Free) (h : UpdateHolds k c.update c.vips job.Free) where
  begins_as : (m : Job) → JobAt k c.update c.vips m → UpdateHolds k c.update c.vips m
  begins_as m a = record { fits = h.fits; word = h.word; others = h.others; phase = a }

  word_is : (u : PoolUpdate) (p : Phase) → c.update ≡ Some u → (vip_at c.vips u.vip).phase ≡ p → p ≢ Steady
      → AtPhase c.update c.vips u p
  word_is u p e q n =
      (e, word_phase u (vip_at c.vips u.vip) p (of_some (λ w. IsWordOf w (vip_at c.vips w.vip)) c.update u h.word e) q n)

  new_update : (g : GiveChange) (rest : List GiveChange) (n : ℕ) → c.update ≡ None → c.gives ≡ g ∷ rest → least_free g.vip c.numbers ≡ Some n
      → UpdateHolds k (Some (update_to c g n)) c.vips (job.Store (store.Member (update_to c g n) 0))
  new_update g rest n e q r =
      let change = change_fits k f g rest c.gives b.gives q in
      let number = free_number g.vip n c.numbers r in
      let below : n < k.layout.shape.versions = omega (arith, number.1, row_length k.layout.shape.versions g.vip c.numbers b.numbers.each) in
      let word : WordFits k.layout (vip_at c.vips g.vip) =
      got_or (WordFits k.layout) c.vips g.vip (steady 0) b.words (record { cur = omega (arith, f.layout.versions.0); next = omega (arith, f.layout.versions.0); fits = refl }) in
      let still : (vip_at c.vips g.vip).phase ≡ Steady = h.others g.vip (subst (λ o. IsAside o g.vip) (sym e) tt) in
      let first : vip_at c.vips g.vip ≡ steady (vip_at c.vips g.vip).cur = steady_is (vip_at c.vips g.vip) still word.fits in
      let stands : standing c.update c.vips g.vip ≡ (vip_at c.vips g.vip).cur = ap (λ o. standing o c.vips g.vip) e in
      let current : state_of g.vip (vip_at c.vips g.vip).cur c.numbers ≡ Some Current =
      (v.current g.vip (vip_at c.vips g.vip).cur change.0 word.cur).1 (inl (sym stands)) in
      let other : (vip_at c.vips g.vip).cur ≢ n = (λ same. free_current (sym number.0 ∙ (ap (λ m. state_of g.vip m c.numbers) (sym same) ∙ current))) in
      record {
        fits = record { vip = change.0; replaced = word.cur; given = below; other = other; pool = change.1 };
        word = inl first;
        others = λ vip a. h.others vip (subst (λ o. IsAside o vip) (sym e) tt);
        phase = ((refl, first), pool_some k f g.vip g.pool change.1);
      }
    where
      free_current : Some Free ≡ Some Current → ⊥
      free_current t = cc

  pub start_phases : (s : Start) → Begins k c s → UpdateHolds k s.update c.vips s.job
  start_phases s (begin.refuses g rest r e) = begins_as (job.Draw (draw.Refused g.position)) h.phase
  start_phases s (begin.takes_down o rest e d) = begins_as (job.Draw (draw.TakenDown o.server)) h.phase
  start_phases s (begin.holds u e p w) = begins_as (job.Draw (draw.Comes u Holding)) (word_is u Recording e p (λ t. cc))
  start_phases s (begin.finishes u e p w) = begins_as (job.Store (store.Vip u Steady)) (word_is u Transit e p (λ t. cc))
  start_phases s (begin.changes g rest n e q d r) = new_update g rest n e q r
  start_phases s (begin.answers o rest e r g) = begins_as (job.Draw (draw.Answer (record { held = o; version = Some e.version }))) h.phase
  start_phases s (begin.places_held o rest p r g d) = begins_as (job.Draw (draw.Reserved p)) h.phase
  start_phases s (begin.has_no_place o rest r g d) = begins_as (job.Draw (draw.Answer (record { held = o; version = None }))) h.phase
  start_phases s (begin.places e p r g d) = begins_as (job.Draw (draw.Reserved p)) h.phase
  start_phases s (begin.retires e place r g) = begins_as (job.Draw (draw.Retired e.key place e.version)) h.phase
  start_phases s (begin.sweeps ms r g) = begins_as (job.Draw (draw.From ms)) h.phase
  start_phases s (begin.releases vip n r) = begins_as (job.Draw (draw.Grace (wait.Release vip n))) h.phase
  start_phases s (begin.looks r) = begins_as (job.Look 0) h.phase

begins_kept : (s : Core) → Invariant s → PhasesHold s → PhasesHold (begun_core s)
begins_kept s i h =
    begun_by s.config s.controller (λ c. UpdateHolds s.config c.update c.vips c.job) h (λ q t g. start_phases s.config s.controller i.shape.config i.shape.controller (printed s) i.update.versions q (subst (UpdateHolds s.config s.controller.update s.controller.vips) q h) t g)

pub phases_put : (s : Core) (p : Put) → s.controller.job ≡ job.Free → PhasesHold s → PhasesHold (put_core s p)
phases_put s p free h =
    let was = subst (UpdateHolds s.config s.controller.update s.controller.vips) free h in
    record { fits = was.fits; word = was.word; others = was.others; phase = was.phase }

-- ---- a pipe's step leaves it alone

stage_kept : (s : Core) (p : ℕ) (v : PipeView) (at : Stage) (o : Option Op) → PhasesHold s → AfterStage PhasesHold s p v at o
stage_kept s p v at None h = tt
stage_kept s p v at (Some o) h = h

pub phases_keep : Keeps IsPacket Invariant PhasesHold
phases_keep = record {
  stages = λ s p v at q e i h. stage_kept s p v at (pipe_op s.config.layout v at) h;
  begins = begins_kept;
  jobs = λ s j q b i h.
      after_job s j (job_op s.config s.controller j) (λ x. phases_go s.config s.controller x j i.shape.controller.vips (subst (JobFits s.config.layout) q i.shape.controller.job) (subst (UpdateHolds s.config s.controller.update s.controller.vips) q h));
  enters = λ s p v packet q r u n a i h. h;
  clocks = λ s ms q i h. h;
  refusals = λ s q i h. h;
}

-- ---- the opening

steady_all : (n vip : ℕ) → (vip_at (replicate n (steady 0)) vip).phase ≡ Steady
steady_all zero vip = refl
steady_all (suc n) zero = refl
steady_all (suc n) (suc vip) = steady_all n vip

pub phases_open : OpensWith PhasesHold
unfolding opening_controller
phases_open k f = record { fits = tt; word = tt; others = λ vip a. steady_all k.layout.vips vip; phase = tt }
