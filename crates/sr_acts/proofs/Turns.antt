-- What the step of a beginning ends.
use Rattle.std.proofs.Common.{◌≡◌, ℕ, false, refl, ap, ◌∙◌}
use Rattle.sr_machine.specs.Config.{Config}
use Rattle.sr_machine.specs.Starting.{begun, first_act, with_job, with_start}
use Rattle.sr_machine.specs.Turning.{turn_at}
use Rattle.sr_machine.specs.declared.controller_view.ControllerView.{ControllerView}
use Rattle.sr_machine.specs.declared.job.Job.{Job}
use Rattle.sr_machine.specs.declared.job.Job.TheVariants.{Free, Draw, Store, Pass, Drain, Look, Hit}
use Rattle.sr_acts.specs.Starts.{is_free, job_for, start_for}
use Rattle.sr_acts.specs.declared.beginning.Beginning.{Beginning}
use Rattle.sr_acts.specs.declared.beginning.Beginning.TheVariants.{Refusal, Outage, Update, Just}
use Rattle.sr_acts.proofs.Begun.{begun_free, begun_set}

-- a job alone changes nothing of it
turn_just : (k : Config) (c : ControllerView) (j i : Job) (x : ℕ) → turn_at k (with_start c (with_job c i)) j x ≡ turn_at k c j x
turn_just k c Free i x = refl
turn_just k c (Draw d) i x = refl
turn_just k c (Store s) i x = refl
turn_just k c (Pass g pipe w) i x = refl
turn_just k c (Drain pipe n w) i x = refl
turn_just k c (Look pipe) i x = refl
turn_just k c (Hit from ms key place n) i x = refl

turn_started : (k : Config) (c : ControllerView) (b : Beginning) (x : ℕ)
    → turn_at k (with_start c (start_for c b)) (start_for c b).job x ≡ turn_at k c (job_for b) x
turn_started k c (Refusal change) x = refl
turn_started k c (Outage server) x = refl
turn_started k c (Update u) x = refl
turn_started k c (Just j) x = turn_just k c j j x

pub turn_free : (k : Config) (c : ControllerView) (b : Beginning) (x : ℕ) → c.job ≡ Free → start_for c b ≡ first_act k c
    → turn_at k (begun k c) (begun k c).job x ≡ turn_at k c (job_for b) x
turn_free k c b x e h = ap (λ (d : ControllerView). turn_at k d d.job x) (begun_free k c b e h) ∙ turn_started k c b x

pub turn_set : (k : Config) (c : ControllerView) (x : ℕ) → is_free c.job ≡ false
    → turn_at k (begun k c) (begun k c).job x ≡ turn_at k c c.job x
turn_set k c x h = ap (λ (d : ControllerView). turn_at k d d.job x) (begun_set k c c.job refl h)
