-- Each event keeps everything in its range.
use Rattle.std.proofs.Common.{◌≡◌, ℕ, List, [], ◌∷◌, ◌++◌, slice_get, slice_set, Some, None, Option, sym, refl, ap, ◌∙◌, subst, append_assoc, append-nil, arith}
use Rattle.std.proofs.lemmas.Bool.Decides.{nat_tests}
use Rattle.std.proofs.lemmas.List.{length-set}
use Rattle.sr_base.specs.Layout.{IsLayout}
use Rattle.sr_base.specs.declared.vip_word.Phase.{Phase}
use Rattle.sr_base.specs.declared.vip_word.Phase.TheVariants.{Steady, Recording, Holding, Transit}
use Rattle.sr_inv_facts.proofs.Beginning.{begun_by}
use Rattle.sr_inv_facts.proofs.Lists.{end_rest, of_some}
use Rattle.sr_inv_facts.proofs.Pipes.{each_set}
use Rattle.sr_inv_facts.proofs.Ranges.{put_fits}
use Rattle.sr_inv_facts.specs.Fitted.{IsPacket}
use Rattle.sr_inv_facts.specs.InJobs.{JobHolds, seen}
use Rattle.sr_inv_facts.specs.InShape.{ControllerFits, InShape, JobFits, StageFits, downing, servers_of}
use Rattle.sr_inv_facts.specs.InUpdate.{JobAt, UpdateFits}
use Rattle.sr_inv_facts.specs.Invariant.{Invariant}
use Rattle.sr_inv_facts.specs.Readings.{IsEnd}
use Rattle.sr_inv_shape.proofs.FittingController.{NeedsFit, book_fits, controller_fits}
use Rattle.sr_inv_shape.proofs.FittingStages.{stage_fits}
use Rattle.sr_machine.specs.Begins.{Begins}
use Rattle.sr_machine.specs.Config.{Config}
use Rattle.sr_machine.specs.Core.{Core, enters, printed}
use Rattle.sr_machine.specs.Jobs.{job_op}
use Rattle.sr_machine.specs.Keeping.{AfterJob, AfterStage, Keeps, begun_core}
use Rattle.sr_machine.specs.Ops.{op_answer, op_name, op_words}
use Rattle.sr_machine.specs.Pipe.{pipe_after, pipe_op}
use Rattle.sr_machine.specs.Starting.{Start, with_start, with_job}
use Rattle.sr_machine.specs.declared.controller_view.ControllerView.{ControllerView}
use Rattle.sr_machine.specs.declared.job.Job.{Job}
use Rattle.sr_machine.specs.declared.name.Name.{Name}
use Rattle.sr_machine.specs.declared.op.Op.{Op}
use Rattle.sr_machine.specs.declared.pipe_view.PipeView.{PipeView}
use Rattle.sr_machine.specs.declared.stage.Stage.{Stage}
use Rattle.sr_update.specs.Updates.{gives_after}
use Rattle.sr_inv_facts.specs.Putting.{put_core}
use Rattle.sr_machine.specs.declared.put.Put.{Put}
use Rattle.sr_machine.specs.declared.stage.Stage.TheVariants as stage
use Rattle.sr_machine.specs.Begins as begin
use Rattle.sr_machine.specs.declared.draw.Draw.TheVariants as draw
use Rattle.sr_machine.specs.declared.store.Store.TheVariants as store
use Rattle.sr_machine.specs.declared.wait.Wait.TheVariants as wait
use Rattle.sr_machine.specs.declared.job.Job.TheVariants as job

-- ---- a pipe's step

pipe_steps : (s : Core) (p : ℕ) (v : PipeView) (at : Stage) (x : ℕ) (words : Name → ℕ) → slice_get s.pipes p ≡ Some v → v.stage ≡ at
    → InShape s → InShape (record s { words = words; pipes = slice_set s.pipes p (pipe_after s.config.layout v at x) })
pipe_steps s p v at x words q e f = record {
  config = f.config;
  pipes = record {
    count = length-set s.pipes p (pipe_after s.config.layout v at x) ∙ f.pipes.count;
    number = each_set s.pipes p v (pipe_after s.config.layout v at x) q (λ n u. u.number ≡ n) f.pipes.number (f.pipes.number p v q);
    stage = each_set s.pipes p v (pipe_after s.config.layout v at x) q (λ n u. StageFits s.config.layout u.stage) f.pipes.stage (stage_fits s.config.layout f.config.layout at x (subst (StageFits s.config.layout) e (f.pipes.stage p v q)));
  };
  book = f.book;
  controller = f.controller;
}

stage_kept : (s : Core) (p : ℕ) (v : PipeView) (at : Stage) (o : Option Op) → slice_get s.pipes p ≡ Some v → v.stage ≡ at → InShape s
    → AfterStage InShape s p v at o
stage_kept s p v at None q e f = tt
stage_kept s p v at (Some o) q e f = pipe_steps s p v at (op_answer o (s.words (op_name o))) (op_words s.words o) q e f

-- ---- the controller's step

-- what a job needs is what the invariant says of it
needed : (s : Core) (i : Invariant s) (j : Job) → s.controller.job ≡ j
    → NeedsFit s.config i.shape.config.layout s.controller i.shape.book i.shape.controller j
needed s i (job.Store (store.Judge p)) q =
    let c = s.controller in
    put_fits s.config i.shape.config.layout c i.shape.book i.shape.controller p
    (subst (JobHolds s.config (seen c) (printed s)) q i.jobs.holds.stands).0
needed s i (job.Store (store.Vip u p)) q = at p (subst (JobAt s.config s.controller.update s.controller.vips) q i.update.update.phase)
  where
    at : (p : Phase) → JobAt s.config s.controller.update s.controller.vips (job.Store (store.Vip u p)) → UpdateFits s.config u
    at Steady a = of_some (UpdateFits s.config) s.controller.update u i.update.update.fits a.0
    at Recording a = of_some (UpdateFits s.config) s.controller.update u i.update.update.fits a.0
    at Holding a = of_some (UpdateFits s.config) s.controller.update u i.update.update.fits a.0
    at Transit a = of_some (UpdateFits s.config) s.controller.update u i.update.update.fits a.0
needed s i (job.Drain pipe count w) q = (subst (JobFits s.config.layout) q i.shape.controller.job).0
needed s i (job.Look pipe) q = subst (JobFits s.config.layout) q i.shape.controller.job
needed s i j q = tt

job_kept : (s : Core) (i : Invariant s) (j : Job) (o : Option Op) → s.controller.job ≡ j → AfterJob InShape s j o
job_kept s i j None q = tt
job_kept s i j (Some o) q =
    let f = i.shape in
    let x = op_answer o (s.words (op_name o)) in
    record {
      config = f.config;
      pipes = f.pipes;
      book = book_fits s.config f.config.layout s.controller f.book f.controller j x (needed s i j q);
      controller = controller_fits s.config f.config.layout s.controller f.book f.controller j x q (needed s i j q);
    }

-- ---- what it begins

module _ (k : Config) (l : IsLayout k.layout) (c : ControllerView) (h : ControllerFits k c) where
  -- only the job changes, and it takes no server down
  set_fits : (m : Job) → c.job ≡ job.Free → downing m ≡ [] → JobFits k.layout m → ControllerFits k (with_start c (with_job c m))
  set_fits m q n f = record {
    vips = h.vips;
    words = h.words;
    numbers = h.numbers;
    named = h.named;
    rings = h.rings;
    held = h.held;
    mark = h.mark;
    gives = h.gives;
    outages = h.outages ∙ ap (λ xs. (c.down ++ xs) ++ servers_of c.outages) (ap downing q ∙ sym n);
    job = f;
  }

  rest_end : {X : Type 0} (x : X) (rest list whole : List X) → list ≡ x ∷ rest → IsEnd list whole → IsEnd rest whole
  rest_end {X} x rest list whole e n = end_rest x rest whole (subst (λ xs. IsEnd xs whole) e n)

  start_fits : c.job ≡ job.Free → (s : Start) → Begins k c s → ControllerFits k (with_start c s)
  start_fits q s (begin.refuses g rest r e) = record {
    vips = h.vips;
    words = h.words;
    numbers = h.numbers;
    named = h.named;
    rings = h.rings;
    held = h.held;
    mark = h.mark;
    gives = rest_end g rest c.gives (gives_after [] k.changes) e h.gives;
    outages = h.outages ∙ ap (λ xs. (c.down ++ xs) ++ servers_of c.outages) (ap downing q);
    job = tt;
  }
  start_fits q s (begin.takes_down o rest e d) = record {
    vips = h.vips;
    words = h.words;
    numbers = h.numbers;
    named = h.named;
    rings = h.rings;
    held = h.held;
    mark = h.mark;
    gives = h.gives;
    outages =
        h.outages ∙ (ap (λ j. (c.down ++ downing j) ++ servers_of c.outages) q ∙ (ap (λ xs. xs ++ servers_of c.outages) (append-nil c.down) ∙ (ap (λ xs. c.down ++ servers_of xs) e ∙ sym (append_assoc c.down (o.server ∷ []) (servers_of rest)))));
    job = tt;
  }
  start_fits q s (begin.holds u e p w) = set_fits (job.Draw (draw.Comes u Holding)) q refl tt
  start_fits q s (begin.finishes u e p w) = set_fits (job.Store (store.Vip u Steady)) q refl tt
  start_fits q s (begin.changes g rest n u e d f) = record {
    vips = h.vips;
    words = h.words;
    numbers = h.numbers;
    named = h.named;
    rings = h.rings;
    held = h.held;
    mark = omega arith;
    gives = rest_end g rest c.gives (gives_after [] k.changes) e h.gives;
    outages = h.outages ∙ ap (λ xs. (c.down ++ xs) ++ servers_of c.outages) (ap downing q);
    job = tt;
  }
  start_fits q s (begin.answers o rest e r f) = set_fits (job.Draw (draw.Answer (record { held = o; version = Some e.version }))) q refl tt
  start_fits q s (begin.places_held o rest p r f g) = set_fits (job.Draw (draw.Reserved p)) q refl tt
  start_fits q s (begin.has_no_place o rest r f g) = set_fits (job.Draw (draw.Answer (record { held = o; version = None }))) q refl tt
  start_fits q s (begin.places e p r f g) = set_fits (job.Draw (draw.Reserved p)) q refl tt
  start_fits q s (begin.retires e place r f) = set_fits (job.Draw (draw.Retired e.key place e.version)) q refl tt
  start_fits q s (begin.sweeps ms r f) = set_fits (job.Draw (draw.From ms)) q refl tt
  start_fits q s (begin.releases vip n r) = set_fits (job.Draw (draw.Grace (wait.Release vip n))) q refl tt
  start_fits q s (begin.looks r) = set_fits (job.Look 0) q refl (omega (arith, l.pipes.0))

begins_kept : (s : Core) → InShape s → InShape (begun_core s)
begins_kept s f = record {
  config = f.config;
  pipes = f.pipes;
  book = f.book;
  controller = begun_by s.config s.controller (ControllerFits s.config) f.controller (start_fits s.config f.config.layout s.controller f.controller);
}

pub shapes_put : (s : Core) (p : Put) → s.controller.job ≡ job.Free → InShape s → InShape (put_core s p)
shapes_put s p free f = record {
  config = f.config;
  pipes = f.pipes;
  book = f.book;
  controller = set_fits s.config f.config.layout s.controller f.controller (job.Draw (draw.Reserved p)) free refl tt;
}

-- ---- all of them

pub shapes_keep : Keeps IsPacket Invariant InShape
shapes_keep = record {
  stages = λ s p v at q e i f. stage_kept s p v at (pipe_op s.config.layout v at) q e f;
  begins = λ s i f. begins_kept s f;
  jobs = λ s j q b i f. job_kept s i j (job_op s.config s.controller j) q;
  enters = λ s p v packet q r u n a i f. record {
    config = f.config;
    pipes = record {
      count = length-set s.pipes p (record v { stage = stage.Enter packet }) ∙ f.pipes.count;
      number = each_set s.pipes p v (record v { stage = stage.Enter packet }) q (λ n u. u.number ≡ n) f.pipes.number (f.pipes.number p v q);
      stage = each_set s.pipes p v (record v { stage = stage.Enter packet }) q (λ n u. StageFits s.config.layout u.stage) f.pipes.stage (record { key = a; vip = grind (arith, nat_tests) });
    };
    book = f.book;
    controller = f.controller;
  };
  clocks = λ s ms q i f. record {
    config = f.config;
    pipes = f.pipes;
    book = f.book;
    controller = record {
      vips = f.controller.vips;
      words = f.controller.words;
      numbers = f.controller.numbers;
      named = f.controller.named;
      rings = f.controller.rings;
      held = f.controller.held;
      mark = f.controller.mark;
      gives = f.controller.gives;
      outages = f.controller.outages;
      job = f.controller.job;
    };
  };
  refusals = λ s q i f. record {
    config = f.config;
    pipes = f.pipes;
    book = f.book;
    controller = record {
      vips = f.controller.vips;
      words = f.controller.words;
      numbers = f.controller.numbers;
      named = f.controller.named;
      rings = f.controller.rings;
      held = f.controller.held;
      mark = f.controller.mark;
      gives = f.controller.gives;
      outages = f.controller.outages;
      job = f.controller.job;
    };
  };
}
