-- What a controller begins, by its cases.
use Rattle.std.proofs.Common.{◌≡◌, refl, subst}
use Rattle.sr_machine.proofs.Following.{first_begins}
use Rattle.sr_machine.specs.Begins.{Begins}
use Rattle.sr_machine.specs.Config.{Config}
use Rattle.sr_machine.specs.Starting.{Start, begun, first_act, start_by, with_job, with_start}
use Rattle.sr_machine.specs.declared.controller_view.ControllerView.{ControllerView}
use Rattle.sr_machine.specs.declared.job.Job.{Job}
use Rattle.sr_machine.specs.declared.job.Job.TheVariants.{Free, Draw, Store, Pass, Drain, Look, Hit}

module _ (k : Config) (c : ControllerView) (P : ControllerView → Type 0) (now : P c) where
  set_job : (j : Job) → c.job ≡ j → P (with_start c (with_job c j))
  set_job j q = subst (λ m. P (with_start c (with_job c m))) q now

  begun_at : (j : Job) → c.job ≡ j → (c.job ≡ Free → (s : Start) → Begins k c s → P (with_start c s))
      → P (with_start c (start_by k c j))
  begun_at Free q starts = starts q (first_act k c) (first_begins k c)
  begun_at (Draw d) q starts = set_job (Draw d) q
  begun_at (Store d) q starts = set_job (Store d) q
  begun_at (Pass g p w) q starts = set_job (Pass g p w) q
  begun_at (Drain p n w) q starts = set_job (Drain p n w) q
  begun_at (Look p) q starts = set_job (Look p) q
  begun_at (Hit from ms key place n) q starts = set_job (Hit from ms key place n) q

  -- a fact holds once the controller has begun, if it does for each thing that it may begin
  pub begun_by : (c.job ≡ Free → (s : Start) → Begins k c s → P (with_start c s)) → P (begun k c)
  begun_by starts = begun_at c.job refl starts

  begun_first_at : (j : Job) → c.job ≡ j → (c.job ≡ Free → P (with_start c (first_act k c))) → P (with_start c (start_by k c j))
  begun_first_at Free q starts = starts q
  begun_first_at (Draw d) q starts = set_job (Draw d) q
  begun_first_at (Store d) q starts = set_job (Store d) q
  begun_first_at (Pass g p w) q starts = set_job (Pass g p w) q
  begun_first_at (Drain p n w) q starts = set_job (Drain p n w) q
  begun_first_at (Look p) q starts = set_job (Look p) q
  begun_first_at (Hit from ms key place n) q starts = set_job (Hit from ms key place n) q

  -- and also if it does for the first act that applies
  pub begun_first : (c.job ≡ Free → P (with_start c (first_act k c))) → P (begun k c)
  begun_first starts = begun_first_at c.job refl starts
