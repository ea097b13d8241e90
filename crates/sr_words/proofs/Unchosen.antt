-- A head or a member is stored for a version that no packet in flight has chosen.
use Rattle.std.proofs.Common.{◌≡◌, ◌∙◌, Bool, true, false, Option, Some, None, IfSome, refl, ap, subst, if◌then◌else◌}
use Rattle.std.proofs.lemmas.Option.{same_Some}
use Rattle.sr_inv.proofs.Joined.{invariant_begun, reached_meets}
use Rattle.sr_inv_facts.specs.InUpdate.{JobAt, OnUngiven, UpdateFits, is_ungiven}
use Rattle.sr_inv_facts.specs.Invariant.{Invariant}
use Rattle.sr_inv_packets.proofs.Numbers.{nowhere}
use Rattle.sr_machine.specs.Core.{Core}
use Rattle.sr_machine.specs.Deciding.{in_bounds}
use Rattle.sr_machine.specs.Jobs.{job_op}
use Rattle.sr_machine.specs.Keeping.{begun_core}
use Rattle.sr_machine.specs.Starting.{begun}
use Rattle.sr_machine.specs.declared.job.Job.{Job}
use Rattle.sr_machine.specs.declared.job.Job.TheVariants as job
use Rattle.sr_machine.specs.declared.op.Op.{Op}
use Rattle.sr_machine.specs.declared.pool_update.PoolUpdate.{PoolUpdate}
use Rattle.sr_machine.specs.declared.store.Store.TheVariants as store
use Rattle.sr_update.specs.Numbers.{state_of}
use Rattle.sr_update.specs.declared.number_state.NumberState.TheVariants.{Free}
use Rattle.sr_words.specs.Laws.{HeadsAreUnchosen, IsUnchosen, OnVersion, ShownStatesMeet, StepsAreMadeIn}

pub shown_meet : ShownStatesMeet
shown_meet k views s = reached_meets k s.fitted s.reached.events s.state s.reached.packets s.reached.leads

pub steps_made : StepsAreMadeIn
steps_made k views o answer s = reached_meets k s.fitted s.reached.events s.state s.reached.packets s.reached.leads

in_some : (o : Option PoolUpdate) (u : PoolUpdate) (P : PoolUpdate → Type 0) → o ≡ Some u → IfSome o P → P u
in_some o u P e h = subst (λ (q : Option PoolUpdate). IfSome q P) e h

-- in a state in which the controller has begun
module _ (s : Core) (i : Invariant s) where
  unchosen_of : (u : PoolUpdate) (j : Job) → s.controller.job ≡ j → is_ungiven j ≡ true → s.controller.update ≡ Some u → IsUnchosen s u.vip u.given
  unchosen_of u j same new is =
      let free : state_of u.vip u.given s.controller.numbers ≡ Some Free =
      subst (λ (o : Option PoolUpdate). OnUngiven o s.controller.job (λ w. state_of w.vip w.given s.controller.numbers ≡ Some Free)) is
      i.update.versions.ungiven (ap is_ungiven same ∙ new) in
      (nowhere s i u.vip u.given (in_some s.controller.update u (UpdateFits s.config) is i.update.update.fits).vip free).flights

  job_unchosen : (j : Job) (o : Op) → s.controller.job ≡ j → job_op s.config s.controller j ≡ Some o → OnVersion o (IsUnchosen s)
  job_unchosen (job.Store (store.Member u index)) o same e =
      let at = subst (JobAt s.config s.controller.update s.controller.vips) same i.update.update.phase in
      subst (λ (p : Op). OnVersion p (IsUnchosen s)) (same_Some _ o e)
      (unchosen_of u (job.Store (store.Member u index)) same refl at.0.0)
  job_unchosen (job.Store (store.Head u)) o same e =
      let at = subst (JobAt s.config s.controller.update s.controller.vips) same i.update.update.phase in
      subst (λ (p : Op). OnVersion p (IsUnchosen s)) (same_Some _ o e) (unchosen_of u (job.Store (store.Head u)) same refl at.0)
  job_unchosen job.Free o same e = cc
  job_unchosen j o same e = subst (λ (p : Op). OnVersion p (IsUnchosen s)) (same_Some _ o e) tt

by_bounds : (b : Bool) (q : Option Op) (o : Op) → (if b then q else None) ≡ Some o → q ≡ Some o
by_bounds true q o e = e
by_bounds false q o e = cc

pub heads_unchosen : HeadsAreUnchosen
heads_unchosen k s o fitted r e =
    let i : Invariant s = reached_meets k fitted r.events s r.packets r.leads in
    let u : Core = begun_core s in
    let made : job_op u.config u.controller u.controller.job ≡ Some o =
    by_bounds (in_bounds s.controller) (job_op s.config (begun s.config s.controller) (begun s.config s.controller).job) o e in
    on_same o (job_unchosen u (invariant_begun s i) u.controller.job o refl made)
  where
    on_same : (o : Op) → OnVersion o (IsUnchosen (begun_core s)) → OnVersion o (IsUnchosen s)
    on_same o h = h
