-- Which steps write the filter, and in which phase of an update.
use Rattle.std.proofs.Common.{◌≡◌, ℕ, false, ◌⊎◌, List, slice_get, slice_set, Some, None, Option, sym, refl, ap, ◌∙◌, subst, inl, inr, arith, get_or-set_same}
use Rattle.std.proofs.lemmas.Option.{same_Some}
use Rattle.sr_base.specs.Key.{KeyView}
use Rattle.sr_base.specs.declared.vip_word.Phase.{Phase}
use Rattle.sr_base.specs.declared.vip_word.Phase.TheVariants.{Steady, Recording, Holding, Transit}
use Rattle.sr_base.specs.declared.vip_word.VipWord.{VipWord}
use Rattle.sr_inv_facts.proofs.Lists.{of_some}
use Rattle.sr_inv_facts.specs.Flying.{OnFlight}
use Rattle.sr_inv_facts.specs.InFilter.{OfUpdate, is_settling, phase_at}
use Rattle.sr_inv_facts.specs.InFlight.{HasWord}
use Rattle.sr_inv_facts.specs.InShape.{StageFits}
use Rattle.sr_inv_facts.specs.InUpdate.{AtPhase, JobAt, UpdateFits}
use Rattle.sr_inv_facts.specs.Invariant.{Invariant}
use Rattle.sr_inv_facts.specs.Readings.{bit_words}
use Rattle.sr_inv_filter.proofs.LoadedPhases.{RecordedAt, phase_is, recorded_at}
use Rattle.sr_inv_flight.proofs.LoadedWords.{words_part}
use Rattle.sr_inv_flight.proofs.Steps.{OnOp}
use Rattle.sr_law.specs.declared.verdict.Verdict.{Verdict}
use Rattle.sr_machine.specs.Config.{Config}
use Rattle.sr_machine.specs.Core.{Core}
use Rattle.sr_machine.specs.Deciding.{vip_at}
use Rattle.sr_machine.specs.Goes.{Goes}
use Rattle.sr_machine.specs.Jobs.{job_op}
use Rattle.sr_machine.specs.Ops.{op_words}
use Rattle.sr_machine.specs.Pipe.{pipe_op}
use Rattle.sr_machine.specs.Reads.{steady}
use Rattle.sr_machine.specs.Stores.{phase_word}
use Rattle.sr_machine.specs.Waiting.{all_passed}
use Rattle.sr_machine.specs.declared.controller_view.ControllerView.{ControllerView}
use Rattle.sr_machine.specs.declared.flight.Flight.{Flight}
use Rattle.sr_machine.specs.declared.job.Job.{Job}
use Rattle.sr_machine.specs.declared.leg.Leg.TheVariants.{Chosen, Judged}
use Rattle.sr_machine.specs.declared.pipe_view.PipeView.{PipeView}
use Rattle.sr_machine.specs.declared.pool_update.PoolUpdate.{PoolUpdate}
use Rattle.sr_machine.specs.declared.stage.Stage.{Stage}
use Rattle.sr_machine.specs.declared.stage.Stage.TheVariants.{Idle, Fly}
use Rattle.sr_machine.specs.declared.wait.Wait.{Wait}
use Rattle.sr_machine.specs.Goes as go
use Rattle.sr_machine.specs.declared.job.Job.TheVariants as job
use Rattle.sr_machine.specs.declared.leg.Last.TheVariants as last
use Rattle.sr_machine.specs.declared.leg.Load.TheVariants as load
use Rattle.sr_machine.specs.declared.store.Store.TheVariants as store
use Rattle.sr_machine.specs.declared.wait.Wait.TheVariants as wait

-- ---- a pipe's step

-- the step records a packet in the filter
abbrev pub IsMark : Stage → Type 0
IsMark (Fly f (Judged v (last.Mark bit rest))) = Unit {0}
IsMark at = ⊥

-- every other one leaves the filter as it is
pub step_bits : (s : Core) (v : PipeView) (at : Stage) → (IsMark at → ⊥)
    → OnOp (pipe_op s.config.layout v at) (λ o. bit_words (op_words s.words o) ≡ bit_words s.words)
step_bits s v Idle n = tt
step_bits s v (Fly f (Judged w (last.Mark bit rest))) n = absurd (n tt)
step_bits s v (Fly f (Chosen m load.Head)) n = refl
step_bits s v at n = refl

-- a packet is recorded of the update that is under way, in Recording or Holding
pub mark_recorded : (s : Core) → Invariant s → (p : ℕ) (v : PipeView) → slice_get s.pipes p ≡ Some v → (f : Flight) (w : Verdict) (bit : ℕ) (rest : List ℕ)
    → v.stage ≡ Fly f (Judged w (last.Mark bit rest))
    → RecordedAt s.controller.update s.controller.vips f.packet.key.vip f.vip
mark_recorded s i p v q f w bit rest e =
    recorded_at s i p f.entered f.packet.key.vip f.vip
    (subst (λ z. OnFlight z (HasWord s.controller.vips s.controller.job p)) e (words_part s i p v q))
    (subst (StageFits s.config.layout) e (i.shape.pipes.stage p v q)).1.1.recording

-- so the phase of an update is one of those two
pub recorded_phase : (update : Option PoolUpdate) (vips : List VipWord) (vip : ℕ)
    (w : VipWord) → RecordedAt update vips vip w
    → (u : PoolUpdate) → update ≡ Some u
    → (phase_at vips u ≡ Recording) ⊎ (phase_at vips u ≡ Holding)
recorded_phase update vips vip w r u e = at r.now
  where
    same : r.u ≡ u
    same = same_Some r.u u (sym r.is ∙ e)

    at : (vip_at vips r.u.vip ≡ phase_word r.u Recording) ⊎ (vip_at vips r.u.vip ≡ phase_word r.u Holding)
        → (phase_at vips u ≡ Recording) ⊎ (phase_at vips u ≡ Holding)
    at (inl h) = inl (subst (λ z. phase_at vips z ≡ Recording) same (ap (λ z. z.phase) h))
    at (inr h) = inr (subst (λ z. phase_at vips z ≡ Holding) same (ap (λ z. z.phase) h))

-- ---- the controller's step

-- jobs that store a phase, clear the filter, or drain for a phase
abbrev pub IsPlain : Job → Type 0
IsPlain (job.Store (store.Vip u p)) = ⊥
IsPlain (job.Store (store.Filter u index)) = ⊥
IsPlain (job.Drain pipe count (wait.Comes u p)) = ⊥
IsPlain j = Unit {0}

-- jobs that don't clear the filter
abbrev pub IsOffFilter : Job → Type 0
IsOffFilter (job.Store (store.Filter u index)) = ⊥
IsOffFilter j = Unit {0}

pub job_bits : (s : Core) (j : Job) → IsOffFilter j → OnOp (job_op s.config s.controller j) (λ o. bit_words (op_words s.words o) ≡ bit_words s.words)
job_bits s job.Free n = tt
job_bits s (job.Store (store.Filter u index)) n = absurd n
job_bits s (job.Store (store.Down server)) n = refl
job_bits s j n = refl

-- a phase that is cleared is Steady
pub clearing_phase : (s : Core) → Invariant s → (w : PoolUpdate) (index : ℕ) → s.controller.job ≡ job.Store (store.Filter w index) → (u : PoolUpdate)
    → s.controller.update ≡ Some u
    → phase_at s.controller.vips u ≡ Steady
clearing_phase s i w index q u e =
    let a : AtPhase s.controller.update s.controller.vips w Steady = (subst (JobAt s.config s.controller.update s.controller.vips) q i.update.update.phase).0 in
    let same : w ≡ u = same_Some w u (sym a.0 ∙ e) in
    subst (λ z. phase_at s.controller.vips z ≡ Steady) same (ap (λ z. z.phase) a.1)

-- a phase that is stored is that of the update under way
pub storing : (s : Core) → Invariant s → (u : PoolUpdate) (y : Phase) → s.controller.job ≡ job.Store (store.Vip u y) → s.controller.update ≡ Some u
storing s i u y q = at y (subst (JobAt s.config s.controller.update s.controller.vips) q i.update.update.phase)
  where
    at : (y : Phase) → JobAt s.config s.controller.update s.controller.vips (job.Store (store.Vip u y)) → s.controller.update ≡ Some u
    at Steady a = a.0
    at Recording a = a.0
    at Holding a = a.0
    at Transit a = a.0

-- the word then
pub stored_word : (s : Core) → Invariant s → (u : PoolUpdate) (y : Phase) → s.controller.job ≡ job.Store (store.Vip u y)
    → vip_at (slice_set s.controller.vips u.vip (phase_word u y)) u.vip ≡ phase_word u y
stored_word s i u y q =
    let f = of_some (UpdateFits s.config) s.controller.update u i.update.update.fits (storing s i u y q) in
    get_or-set_same s.controller.vips u.vip (phase_word u y) (steady 0) (omega (arith, f.vip, i.shape.controller.vips))

pub stored_phase : (s : Core) → Invariant s → (u : PoolUpdate) (y : Phase) → s.controller.job ≡ job.Store (store.Vip u y)
    → phase_at (slice_set s.controller.vips u.vip (phase_word u y)) u ≡ y
stored_phase s i u y q = ap (λ z. z.phase) (stored_word s i u y q) ∙ phase_is u y

-- ---- what is said of an update's keys

pub of_update : (o : Option PoolUpdate) (key : KeyView) (P : PoolUpdate → Type 0) → ((u : PoolUpdate) → o ≡ Some u → key.vip ≡ u.vip → P u)
    → OfUpdate o key P
of_update None key P h = tt
of_update (Some u) key P h = λ own. h u refl own

pub update_then : (o : Option PoolUpdate) (key : KeyView) (P Q : PoolUpdate → Type 0)
    → ((u : PoolUpdate) → o ≡ Some u → key.vip ≡ u.vip → P u → Q u) → OfUpdate o key P
    → OfUpdate o key Q
update_then None key P Q t h = tt
update_then (Some u) key P Q t h = λ own. t u refl own (h own)

pub at_update : (o : Option PoolUpdate) (key : KeyView) (P : PoolUpdate → Type 0) (u : PoolUpdate) → OfUpdate o key P → o ≡ Some u → key.vip ≡ u.vip
    → P u
at_update o key P u h e own = subst (λ z. OfUpdate z key P) e h own

-- ---- a wait goes on until its drain is over

module _ (k : Config) (c : ControllerView) (x : ℕ) where
  passed_recording : (g pipe : ℕ) (w : Wait) → is_settling Recording (all_passed w) ≡ false → is_settling Recording (job.Pass g pipe w) ≡ false
  passed_recording g pipe (wait.Judge m) e = refl
  passed_recording g pipe (wait.Live m) e = refl
  passed_recording g pipe (wait.Retire key) e = refl
  passed_recording g pipe (wait.Comes u Steady) e = refl
  passed_recording g pipe (wait.Comes u Recording) e = e
  passed_recording g pipe (wait.Comes u Holding) e = refl
  passed_recording g pipe (wait.Comes u Transit) e = refl
  passed_recording g pipe (wait.Release vip version) e = refl

  -- the next job isn't settled unless this one is
  pub settles_recording : (j m : Job) → Goes k c x j m → IsPlain j → is_settling Recording m ≡ false → is_settling Recording j ≡ false
  settles_recording j m (go.waits w) n e = e
  settles_recording j m (go.pass_stays g pipe w a) n e = e
  settles_recording j m (go.pass_next g pipe w a b) n e = e
  settles_recording j m (go.pass_last g pipe w a b) n e = passed_recording g pipe w e
  settles_recording j m (go.drain_stays pipe count w a) n e = e
  settles_recording j m (go.drain_next pipe count w a b) n e = e
  settles_recording j m (go.drain_last pipe count (wait.Comes u p) a b) n e = absurd n
  settles_recording j m (go.drain_last pipe count (wait.Judge y) a b) n e = refl
  settles_recording j m (go.drain_last pipe count (wait.Live y) a b) n e = refl
  settles_recording j m (go.drain_last pipe count (wait.Retire y) a b) n e = refl
  settles_recording j m (go.drain_last pipe count (wait.Release y z) a b) n e = refl
  settles_recording j m g n e = refl

  passed_transit : (g pipe : ℕ) (w : Wait) → is_settling Transit (all_passed w) ≡ false → is_settling Transit (job.Pass g pipe w) ≡ false
  passed_transit g pipe (wait.Judge m) e = refl
  passed_transit g pipe (wait.Live m) e = refl
  passed_transit g pipe (wait.Retire key) e = refl
  passed_transit g pipe (wait.Comes u Steady) e = refl
  passed_transit g pipe (wait.Comes u Recording) e = refl
  passed_transit g pipe (wait.Comes u Holding) e = refl
  passed_transit g pipe (wait.Comes u Transit) e = e
  passed_transit g pipe (wait.Release vip version) e = refl

  pub settles_transit : (j m : Job) → Goes k c x j m → IsPlain j → is_settling Transit m ≡ false → is_settling Transit j ≡ false
  settles_transit j m (go.waits w) n e = e
  settles_transit j m (go.comes u Steady) n e = refl
  settles_transit j m (go.comes u Recording) n e = refl
  settles_transit j m (go.comes u Holding) n e = refl
  settles_transit j m (go.comes u Transit) n e = e
  settles_transit j m (go.pass_stays g pipe w a) n e = e
  settles_transit j m (go.pass_next g pipe w a b) n e = e
  settles_transit j m (go.pass_last g pipe w a b) n e = passed_transit g pipe w e
  settles_transit j m (go.drain_stays pipe count w a) n e = e
  settles_transit j m (go.drain_next pipe count w a b) n e = e
  settles_transit j m (go.drain_last pipe count (wait.Comes u p) a b) n e = absurd n
  settles_transit j m (go.drain_last pipe count (wait.Judge y) a b) n e = refl
  settles_transit j m (go.drain_last pipe count (wait.Live y) a b) n e = refl
  settles_transit j m (go.drain_last pipe count (wait.Retire y) a b) n e = refl
  settles_transit j m (go.drain_last pipe count (wait.Release y z) a b) n e = refl
  settles_transit j m g n e = refl
