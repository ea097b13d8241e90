-- What begins, and the step of it.
use Rattle.std.proofs.Common.{◌≡◌, true, false, refl, sym, ap, ◌∙◌}
use Rattle.sr_machine.specs.Config.{Config}
use Rattle.sr_machine.specs.Deciding.{is_withdrawn}
use Rattle.sr_machine.specs.Jobs.{job_op}
use Rattle.sr_machine.specs.Starting.{Start, begun, first_act, start_by, with_job, with_start}
use Rattle.sr_machine.specs.declared.controller_view.ControllerView.{ControllerView}
use Rattle.sr_machine.specs.declared.job.Job.{Job}
use Rattle.sr_machine.specs.declared.job.Job.TheVariants.{Free, Draw, Store, Pass, Drain, Look, Hit}
use Rattle.sr_machine.specs.declared.put.Aim.{Aim}
use Rattle.sr_machine.specs.declared.put.Aim.TheVariants as aim
use Rattle.sr_machine.specs.declared.store.Store.TheVariants as store
use Rattle.sr_acts.specs.Starts.{is_free, job_for, start_for}
use Rattle.sr_acts.specs.declared.beginning.Beginning.{Beginning}
use Rattle.sr_acts.specs.declared.beginning.Beginning.TheVariants.{Refusal, Outage, Update, Just}
use Rattle.sr_base.specs.Key.{KeyView}
use Rattle.sr_base.specs.declared.place.Place.{Place}

-- a job that is set goes on
pub begun_set : (k : Config) (c : ControllerView) (j : Job) → c.job ≡ j → is_free j ≡ false → begun k c ≡ c
begun_set k c Free e h = absurd (cc)
begun_set k c (Draw d) e h = ap (λ i. with_start c (start_by k c i)) e ∙ ap (λ i. with_start c (with_job c i)) (sym e)
begun_set k c (Store s) e h = ap (λ i. with_start c (start_by k c i)) e ∙ ap (λ i. with_start c (with_job c i)) (sym e)
begun_set k c (Pass g pipe w) e h = ap (λ i. with_start c (start_by k c i)) e ∙ ap (λ i. with_start c (with_job c i)) (sym e)
begun_set k c (Drain pipe n w) e h = ap (λ i. with_start c (start_by k c i)) e ∙ ap (λ i. with_start c (with_job c i)) (sym e)
begun_set k c (Look pipe) e h = ap (λ i. with_start c (start_by k c i)) e ∙ ap (λ i. with_start c (with_job c i)) (sym e)
begun_set k c (Hit from ms key place n) e h = ap (λ i. with_start c (start_by k c i)) e ∙ ap (λ i. with_start c (with_job c i)) (sym e)

pub begun_free : (k : Config) (c : ControllerView) (b : Beginning) → c.job ≡ Free → start_for c b ≡ first_act k c
    → begun k c ≡ with_start c (start_for c b)
begun_free k c b e h = ap (λ i. with_start c (start_by k c i)) e ∙ ap (with_start c) (sym h)

-- what begins changes nothing that a step is made by
withdrawn_begun : (k : Config) (c : ControllerView) (s : Start) (key : KeyView) (place : Place) (a : Aim)
    → is_withdrawn k (with_start c s) (record { key = key; place = place; aim = a }) ≡ is_withdrawn k c (record { key = key; place = place; aim = a })
unfolding is_withdrawn
withdrawn_begun k c s key place aim.Pending = refl
withdrawn_begun k c s key place (aim.Held h) = refl
withdrawn_begun k c s key place (aim.Move from planned) = refl

pub op_begun : (k : Config) (c : ControllerView) (s : Start) (j : Job) → job_op k (with_start c s) j ≡ job_op k c j
op_begun k c s Free = refl
op_begun k c s (Draw d) = refl
op_begun k c s (Store (store.Down server)) = refl
op_begun k c s (Store (store.Member u index)) = refl
op_begun k c s (Store (store.Head u)) = refl
op_begun k c s (Store (store.Vip u p)) = refl
op_begun k c s (Store (store.Filter u index)) = refl
op_begun k c s (Store (store.Reserved p)) = refl
op_begun k c s (Store (store.Judge p)) = rw (withdrawn_begun k c s p.key p.place p.aim) refl
op_begun k c s (Store (store.Empty key place w)) = refl
op_begun k c s (Pass g pipe w) = refl
op_begun k c s (Drain pipe n w) = refl
op_begun k c s (Look pipe) = refl
op_begun k c s (Hit from ms key place n) = refl

pub job_started : (c : ControllerView) (b : Beginning) → (start_for c b).job ≡ job_for b
job_started c (Refusal change) = refl
job_started c (Outage server) = refl
job_started c (Update u) = refl
job_started c (Just j) = refl

pub op_free : (k : Config) (c : ControllerView) (b : Beginning) → c.job ≡ Free → start_for c b ≡ first_act k c
    → job_op k (begun k c) (begun k c).job ≡ job_op k c (job_for b)
op_free k c b e h = ap (λ (d : ControllerView). job_op k d d.job) (begun_free k c b e h)
    ∙ op_begun k c (start_for c b) (start_for c b).job ∙ ap (job_op k c) (job_started c b)

pub op_set : (k : Config) (c : ControllerView) → is_free c.job ≡ false → job_op k (begun k c) (begun k c).job ≡ job_op k c c.job
op_set k c h = ap (λ (d : ControllerView). job_op k d d.job) (begun_set k c c.job refl h)

pub free_is : (j : Job) → is_free j ≡ true → j ≡ Free
free_is Free h = refl
free_is (Draw d) h = absurd (cc)
free_is (Store s) h = absurd (cc)
free_is (Pass g pipe w) h = absurd (cc)
free_is (Drain pipe n w) h = absurd (cc)
free_is (Look pipe) h = absurd (cc)
free_is (Hit from ms key place n) h = absurd (cc)
