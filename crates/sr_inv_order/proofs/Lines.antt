-- A fact of each line by the lines before it is kept where it holds of each line that is printed.
use Rattle.std.proofs.Common.{◌≡◌, ℕ, List, ◌++◌, slice_get, Some, None, Option, option_to_list, sym, refl, subst}
use Rattle.sr_inv_facts.proofs.Printing.{prints, job_tells, stage_prints, tells, pipe_silent}
use Rattle.sr_inv_facts.specs.Fitted.{IsPacket}
use Rattle.sr_inv_facts.specs.Invariant.{Invariant}
use Rattle.sr_inv_order.specs.Meeting.{EachLine}
use Rattle.sr_law.specs.declared.line.Line.{Line}
use Rattle.sr_law.specs.declared.verdict.Verdict.{Verdict}
use Rattle.sr_machine.specs.Config.{Config}
use Rattle.sr_machine.specs.Core.{Core, printed}
use Rattle.sr_machine.specs.Draws.{draw_line}
use Rattle.sr_machine.specs.Jobs.{job_op}
use Rattle.sr_machine.specs.Keeping.{AfterJob, AfterStage, Keeps}
use Rattle.sr_machine.specs.Pipe.{packet_line, pipe_op}
use Rattle.sr_machine.specs.declared.draw.Draw.{Draw}
use Rattle.sr_machine.specs.declared.flight.Flight.{Flight}
use Rattle.sr_machine.specs.declared.job.Job.{Job}
use Rattle.sr_machine.specs.declared.leg.Leg.TheVariants.{Judged}
use Rattle.sr_machine.specs.declared.op.Op.{Op}
use Rattle.sr_machine.specs.declared.pipe_view.PipeView.{PipeView}
use Rattle.sr_machine.specs.declared.stage.Stage.{Stage}
use Rattle.sr_machine.specs.declared.stage.Stage.TheVariants.{Fly, Enter}
use Rattle.sr_machine.specs.declared.job.Job.TheVariants as job
use Rattle.sr_machine.specs.declared.leg.Last.TheVariants as last
use Rattle.sr_machine.specs.declared.name.Name.TheVariants as name

-- what is owed for the line of a packet, and for one of the controller
pub record Owed (P : Config → List Line → Line → Type 0) : Type 0 where
  pub packet : (s : Core) → Invariant s → (p : ℕ) (v : PipeView) → slice_get s.pipes p ≡ Some v → (f : Flight) (w : Verdict)
      → v.stage ≡ Fly f (Judged w last.Out) → P s.config (printed s) (packet_line v.number f w (s.words name.Tick))
  pub drawn : (s : Core) → Invariant s → (d : Draw) → s.controller.job ≡ job.Draw d → (l : Line)
      → draw_line s.config s.controller d (s.words name.Tick) ≡ Some l → P s.config (printed s) l

module _ (P : Config → List Line → Line → Type 0) (owed : Owed P) where
  abbrev Kept : Core → Type 0
  Kept s = EachLine (P s.config) (printed s)

  stage_lines : (s : Core) (p : ℕ) (v : PipeView) (a : Stage) → slice_get s.pipes p ≡ Some v → v.stage ≡ a → Invariant s → Kept s
      → EachLine (P s.config) (prints v.number a (s.words name.Tick) ++ printed s)
  stage_lines s p v (Fly f (Judged w last.Out)) q e i k = (owed.packet s i p v q f w e, k)
  stage_lines s p v a q e i k = k

  stage_kept : (s : Core) (p : ℕ) (v : PipeView) (a : Stage) (o : Option Op) (lines : List Line) → AfterStage (λ t. printed t ≡ lines) s p v a o
      → EachLine (P s.config) lines
      → AfterStage Kept s p v a o
  stage_kept s p v a None lines e h = tt
  stage_kept s p v a (Some o) lines e h = subst (EachLine (P s.config)) (sym e) h

  job_lines : (s : Core) (j : Job) → s.controller.job ≡ j → Invariant s → Kept s
      → EachLine (P s.config) (tells s.config s.controller j (s.words name.Tick) ++ printed s)
  job_lines s (job.Draw d) e i k = at (draw_line s.config s.controller d (s.words name.Tick)) refl
    where
      at : (o : Option Line) → draw_line s.config s.controller d (s.words name.Tick) ≡ o
          → EachLine (P s.config) (option_to_list o ++ printed s)
      at None r = k
      at (Some l) r = (owed.drawn s i d e l r, k)
  job_lines s j e i k = k

  job_kept : (s : Core) (j : Job) (o : Option Op) (lines : List Line) → AfterJob (λ t. printed t ≡ lines) s j o → EachLine (P s.config) lines
      → AfterJob Kept s j o
  job_kept s j None lines e h = tt
  job_kept s j (Some o) lines e h = subst (EachLine (P s.config)) (sym e) h

  pub lines_keep : Keeps IsPacket Invariant Kept
  lines_keep = record {
    stages = λ s p v a q e i k.
        stage_kept s p v a (pipe_op s.config.layout v a) (prints v.number a (s.words name.Tick) ++ printed s) (stage_prints s p v a i.ticks q) (stage_lines s p v a q e i k);
    begins = λ s i k. k;
    jobs = λ s j e b i k.
        job_kept s j (job_op s.config s.controller j) (tells s.config s.controller j (s.words name.Tick) ++ printed s) (job_tells s j i.ticks) (job_lines s j e i k);
    enters = λ s p v packet q r u n a i k.
        subst (EachLine (P s.config)) (sym (pipe_silent s p v (record v { stage = Enter packet }) q refl s.words)) k;
    clocks = λ s ms q i k. k;
    refusals = λ s q i k. k;
  }
