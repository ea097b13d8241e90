-- Every event keeps what the lines tell of servers that were taken down.
use Rattle.std.proofs.Common.{◌≡◌, ℕ, zero, suc, true, List, [], ◌∷◌, ◌++◌, reverse, Some, None, Option, option_to_list, sym, refl, ap, ◌∙◌, subst, append_assoc}
use Rattle.std.proofs.lemmas.List.{reverse-append}
use Rattle.sr_base.specs.declared.vip_word.Phase.TheVariants.{Steady, Recording, Holding, Transit}
use Rattle.sr_inv_facts.proofs.Beginning.{begun_by}
use Rattle.sr_inv_facts.proofs.Lists.{all_more, all_then}
use Rattle.sr_inv_facts.proofs.OpeningLines.{opened_lines, opening_printed}
use Rattle.sr_inv_facts.proofs.Printing.{job_tells, pipe_silent, prints, stage_prints, tells}
use Rattle.sr_inv_facts.specs.Fitted.{IsPacket}
use Rattle.sr_inv_facts.specs.Invariant.{Invariant}
use Rattle.sr_inv_facts.specs.Laws.{OpensWith}
use Rattle.sr_inv_settled.proofs.GivesKept.{come_later}
use Rattle.sr_inv_settled.specs.Told.{DownsKept, DownsTold}
use Rattle.sr_law.specs.Settled.{downs_of}
use Rattle.sr_law.specs.declared.line.Line.{Line}
use Rattle.sr_machine.specs.Begins.{Begins}
use Rattle.sr_machine.specs.Config.{Config}
use Rattle.sr_machine.specs.Core.{Core, newest_first, pipe_lines, printed}
use Rattle.sr_machine.specs.Draws.{draw_line}
use Rattle.sr_machine.specs.Jobs.{down_next, job_op, lines_next}
use Rattle.sr_machine.specs.Keeping.{AfterJob, AfterStage, Keeps, begun_core}
use Rattle.sr_machine.specs.Opening.{opening_controller, outages_in}
use Rattle.sr_machine.specs.Ops.{op_answer, op_name}
use Rattle.sr_machine.specs.Pipe.{pipe_op}
use Rattle.sr_machine.specs.Starting.{Start, with_start}
use Rattle.sr_machine.specs.Telling.{is_no_earlier}
use Rattle.sr_machine.specs.declared.controller_view.ControllerView.{ControllerView}
use Rattle.sr_machine.specs.declared.draw.Draw.{Draw}
use Rattle.sr_machine.specs.declared.job.Job.{Job}
use Rattle.sr_machine.specs.declared.leg.Leg.TheVariants.{Judged}
use Rattle.sr_machine.specs.declared.op.Op.{Op}
use Rattle.sr_machine.specs.declared.pipe_view.PipeView.{PipeView}
use Rattle.sr_machine.specs.declared.stage.Stage.{Stage}
use Rattle.sr_machine.specs.declared.stage.Stage.TheVariants.{Enter, Fly}
use Rattle.sr_update.specs.Updates.{has_come}
use Rattle.sr_machine.specs.Begins as begin
use Rattle.sr_machine.specs.declared.draw.Draw.TheVariants as draw
use Rattle.sr_machine.specs.declared.job.Job.TheVariants as job
use Rattle.sr_machine.specs.declared.leg.Last.TheVariants as last
use Rattle.sr_machine.specs.declared.name.Name.TheVariants as name

-- ---- a line

module _ (k : Config) (c : ControllerView) (x : ℕ) (lines : List Line) (h : downs_of lines ≡ reverse c.down) where
  abbrev TellsOf : List Line → List ℕ → Type 0
  TellsOf ls down = downs_of ls ≡ reverse down

  draw_told : (d : Draw) → TellsOf (option_to_list (draw_line k c d x) ++ lines) (down_next c (job.Draw d))
  draw_told (draw.TakenDown server) = ap (λ ss. server ∷ ss) h ∙ sym (reverse-append c.down (server ∷ []))
  draw_told (draw.Comes u Steady) = h
  draw_told (draw.Comes u Recording) = h
  draw_told (draw.Comes u Holding) = h
  draw_told (draw.Comes u Transit) = h
  draw_told d = h

  job_told : (j : Job) → TellsOf (tells k c j x ++ lines) (down_next c j)
  job_told (job.Draw d) = draw_told d
  job_told j = h

-- ---- every event

module _ (s : Core) (i : Invariant s) (h : DownsKept s) where
  abbrev Of : ControllerView → Type 0
  Of c = DownsTold s.config c.clock (printed s) c.down c.outages

  abbrev With : List Line → List ℕ → Type 0
  With lines down = DownsTold s.config s.controller.clock lines down s.controller.outages

  with_told : (lines : List Line) (down : List ℕ) → downs_of lines ≡ reverse down → With lines down
  with_told lines down t = record { made = h.made; all = h.all; due = h.due; told = t }

  lift : (j : Job) (o : Option Op) → ((x : ℕ) → lines_next s.config s.controller j x ≡ s.controller.lines)
      → With (printed s) (down_next s.controller j)
      → AfterJob DownsKept s j o
  lift j None e f = tt
  lift j (Some o) e f =
      let x = op_answer o (s.words (op_name o)) in
      subst (λ ls. With ls (down_next s.controller j)) (ap (λ ls. newest_first (pipe_lines s.pipes ++ ls)) (sym (e x))) f

  job_kept : (j : Job) → AfterJob DownsKept s j (job_op s.config s.controller j)
  job_kept (job.Draw d) =
      subst (λ ls. With ls (down_next s.controller (job.Draw d))) (sym (job_tells s (job.Draw d) i.ticks))
      (with_told _ _ (job_told s.config s.controller (s.words name.Tick) (printed s) h.told (job.Draw d)))
  job_kept j =
      lift j (job_op s.config s.controller j) (λ x. refl)
      (with_told (printed s) (down_next s.controller j) (job_told s.config s.controller 0 (printed s) h.told j))

  line_kept : (n : ℕ) (at : Stage) (x : ℕ) → With (prints n at x ++ printed s) s.controller.down
  line_kept n (Fly f (Judged w last.Out)) x = with_told _ s.controller.down h.told
  line_kept n at x = h

  stage_kept : (p : ℕ) (v : PipeView) (at : Stage) (now : List Line) (o : Option Op) → With now s.controller.down
      → AfterStage (λ t. printed t ≡ now) s p v at o
      → AfterStage DownsKept s p v at o
  stage_kept p v at now None a e = tt
  stage_kept p v at now (Some o) a e = subst (λ ls. With ls s.controller.down) (sym e) a

  starts : (t : Start) → Begins s.config s.controller t → Of (with_start s.controller t)
  starts t (begin.takes_down o rest q r) = record {
    made = h.made ++ o ∷ [];
    all = h.all ∙ (ap (λ os. h.made ++ os) q ∙ sym (append_assoc h.made (o ∷ []) rest));
    due = all_more (λ o. has_come o.at_ms s.controller.clock ≡ true) h.made (o ∷ []) h.due (r, tt);
    told = h.told;
  }
  starts t b = h

  begins_kept : DownsKept (begun_core s)
  begins_kept = begun_by s.config s.controller Of h (λ q t b. starts t b)

  clock_kept : (ms : ℕ) → is_no_earlier s.controller.clock ms ≡ true
      → DownsKept (record s { controller = record s.controller { clock = Some ms } })
  clock_kept ms q = record {
    made = h.made;
    all = h.all;
    due = all_then (λ o. has_come o.at_ms s.controller.clock ≡ true) (λ o. has_come o.at_ms (Some ms) ≡ true)
        (λ o c. come_later s.controller.clock ms o.at_ms q c) h.made h.due;
    told = h.told;
  }

pub downs_keep : Keeps IsPacket Invariant DownsKept
downs_keep = record {
  stages = λ s p v at q e i h.
      stage_kept s i h p v at (prints v.number at (s.words name.Tick) ++ printed s) (pipe_op s.config.layout v at) (line_kept s i h v.number at (s.words name.Tick)) (stage_prints s p v at i.ticks q);
  begins = λ s i h. begins_kept s i h;
  jobs = λ s j e b i h. job_kept s i h j;
  enters = λ s p v packet q r u n a i h. subst (λ ls. With s i h ls s.controller.down) (sym (pipe_silent s p v (record v { stage = Enter packet }) q refl s.words)) h;
  clocks = λ s ms q i h. clock_kept s i h ms q;
  refusals = λ s q i h. h;
}

-- ---- the opening

opened_told : (n : ℕ) → downs_of (opened_lines n) ≡ []
opened_told zero = refl
opened_told (suc n) = opened_told n

pub downs_open : OpensWith DownsKept
unfolding opening_controller
downs_open k f =
    subst (λ ls. DownsTold k None ls [] (outages_in k.changes)) (sym (opening_printed k))
    (record { made = []; all = refl; due = tt; told = opened_told k.layout.vips })
