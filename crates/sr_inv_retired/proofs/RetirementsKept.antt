-- Every event keeps that sweeps and retirements meet their clause.
use Rattle.std.proofs.Common.{◌≡◌, ℕ, zero, suc, ◌≤◌, Bool, true, List, [], ◌∷◌, ◌++◌, slice_get, slice_set, Some, None, Option, option_to_list, sym, refl, subst, arith}
use Rattle.std.specs.List.{list_any}
use Rattle.sr_inv_clauses.proofs.Drawn.{EachDraw, drawn_by, each_phase}
use Rattle.sr_inv_facts.proofs.OpeningLines.{opened_lines, opening_printed}
use Rattle.sr_inv_facts.proofs.Pipes.{idle}
use Rattle.sr_inv_facts.proofs.Printing.{prints, job_tells, pipe_silent, stage_prints, tells}
use Rattle.sr_inv_facts.specs.Fitted.{IsPacket}
use Rattle.sr_inv_facts.specs.InCauses.{ending_at, endings_in, setup_of}
use Rattle.sr_inv_facts.specs.Invariant.{Invariant}
use Rattle.sr_inv_facts.specs.Laws.{OpensWith}
use Rattle.sr_inv_order.proofs.Joined.{each_part}
use Rattle.sr_inv_order.proofs.Rising.{all_before}
use Rattle.sr_inv_order.specs.Meeting.{EachLine}
use Rattle.sr_inv_retired.proofs.Endings.{Supports, line_supported, lines_supported, stays_ending, supports_line, supports_out, supports_pipes}
use Rattle.sr_inv_retired.proofs.Retiring.{retire_met, sweep_next}
use Rattle.sr_inv_retired.specs.Retirements.{RetirementsKept}
use Rattle.sr_law.specs.Retire.{EndingPacket, meets_retire}
use Rattle.sr_law.specs.Setup.{SetupView}
use Rattle.sr_law.specs.declared.line.Line.{Line}
use Rattle.sr_machine.specs.Config.{Config}
use Rattle.sr_machine.specs.Core.{Core, opening, printed}
use Rattle.sr_machine.specs.Draws.{draw_line}
use Rattle.sr_machine.specs.Jobs.{job_op}
use Rattle.sr_machine.specs.Keeping.{AfterJob, AfterStage, Keeps}
use Rattle.sr_machine.specs.Ops.{op_answer, op_name}
use Rattle.sr_machine.specs.Pipe.{packet_line, pipe_after, pipe_op}
use Rattle.sr_machine.specs.Stages.{stage_after}
use Rattle.sr_machine.specs.declared.job.Job.{Job}
use Rattle.sr_machine.specs.declared.leg.Leg.TheVariants.{Judged}
use Rattle.sr_machine.specs.declared.op.Op.{Op}
use Rattle.sr_machine.specs.declared.pipe_view.PipeView.{PipeView}
use Rattle.sr_machine.specs.declared.stage.Stage.{Stage}
use Rattle.sr_machine.specs.declared.stage.Stage.TheVariants.{Idle, Enter, Fly}
use Rattle.sr_machine.specs.declared.job.Job.TheVariants as job
use Rattle.sr_machine.specs.declared.leg.Last.TheVariants as last
use Rattle.sr_machine.specs.declared.name.Name.TheVariants as name

abbrev Met : Config → List EndingPacket → List Line → Type 0
Met k endings lines = EachLine (λ before l. meets_retire (setup_of k) endings before l ≡ true) lines

module _ (s : Core) (i : Invariant s) where
  some_tick : 1 ≤ s.words name.Tick
  some_tick = omega (arith, i.words.tick)

  -- what was printed goes on to meet it
  supported : (new : List EndingPacket) → Supports (s.words name.Tick) (endings_in s.pipes (printed s)) new → RetirementsKept s
      → Met s.config new (printed s)
  supported new sup h =
      lines_supported (setup_of s.config) (endings_in s.pipes (printed s)) new (s.words name.Tick) (printed s) some_tick (all_before s i.ticks) sup h

  -- ---- a pipe's step

  stage_met : (p : ℕ) (v : PipeView) (a : Stage) (x : ℕ) (w : PipeView) → slice_get s.pipes p ≡ Some v → v.stage ≡ a
      → w.stage ≡ stage_after s.config.layout a x
      → RetirementsKept s
      → Met s.config (endings_in (slice_set s.pipes p w) (prints v.number a (s.words name.Tick) ++ printed s)) (prints v.number a (s.words name.Tick) ++ printed s)
  unfolding meets_retire
  stage_met p v (Fly f (Judged z last.Out)) x w q e r h = (
    refl,
    supported (endings_in (slice_set s.pipes p w) (packet_line v.number f z (s.words name.Tick) ∷ printed s))
        (supports_out (s.words name.Tick) f.packet.number v.number f z z s.pipes p v w (printed s) q e) h,
  )
  stage_met p v a x w q e r h =
      supported (endings_in (slice_set s.pipes p w) (printed s))
      (supports_pipes (s.words name.Tick) s.pipes p v w (printed s) q
      (λ f g. subst (λ z. list_any f (ending_at z) ≡ true) (sym r)
      (stays_ending f s.config.layout a x (λ k u t. cc) (subst (λ z. list_any f (ending_at z) ≡ true) e g)))) h

  stage_kept : (p : ℕ) (v : PipeView) (a : Stage) (o : Option Op) → slice_get s.pipes p ≡ Some v → v.stage ≡ a
      → AfterStage (λ t. printed t ≡ prints v.number a (s.words name.Tick) ++ printed s) s p v a o → RetirementsKept s
      → AfterStage RetirementsKept s p v a o
  stage_kept p v a None q e lines h = tt
  stage_kept p v a (Some o) q e lines h =
      let w = pipe_after s.config.layout v a (op_answer o (s.words (op_name o))) in
      subst (λ ls. Met s.config (endings_in (slice_set s.pipes p w) ls) ls) (sym lines)
      (stage_met p v a (op_answer o (s.words (op_name o))) w q e refl h)

  -- ---- the controller

  drawn_met : EachDraw s (λ l. meets_retire (setup_of s.config) (endings_in s.pipes (printed s)) (printed s) l ≡ true)
  unfolding meets_retire
  drawn_met = record {
    refused = λ n e. refl;
    taken_down = λ n e. refl;
    given = λ u e. refl;
    comes = λ u p e.
        each_phase (λ l. meets_retire (setup_of s.config) (endings_in s.pipes (printed s)) (printed s) l ≡ true) u (s.words name.Tick) refl refl refl refl p;
    reserved = λ p e. refl;
    placed = λ p e. refl;
    cleared = λ key place w e. refl;
    retired = λ key place version e. retire_met s i key place version e;
    answer = λ r e. refl;
    swept = λ from ms e. sweep_next s i from ms e;
  }

  line_met : (l : Line) → meets_retire (setup_of s.config) (endings_in s.pipes (printed s)) (printed s) l ≡ true → RetirementsKept s
      → Met s.config (endings_in s.pipes (l ∷ printed s)) (l ∷ printed s)
  line_met l m h =
      let sup = supports_line (s.words name.Tick) s.pipes l (printed s) in
      (line_supported (setup_of s.config) (endings_in s.pipes (printed s)) (endings_in s.pipes (l ∷ printed s)) (s.words name.Tick) (printed s) l some_tick (all_before s i.ticks) sup m, supported (endings_in s.pipes (l ∷ printed s)) sup h)

  job_met : (j : Job) → s.controller.job ≡ j → RetirementsKept s
      → Met s.config (endings_in s.pipes (tells s.config s.controller j (s.words name.Tick) ++ printed s)) (tells s.config s.controller j (s.words name.Tick) ++ printed s)
  job_met (job.Draw d) e h = at (draw_line s.config s.controller d (s.words name.Tick)) refl
    where
      at : (o : Option Line) → draw_line s.config s.controller d (s.words name.Tick) ≡ o
          → Met s.config (endings_in s.pipes (option_to_list o ++ printed s)) (option_to_list o ++ printed s)
      at None q = h
      at (Some l) q =
          line_met l (drawn_by s (λ l. meets_retire (setup_of s.config) (endings_in s.pipes (printed s)) (printed s) l ≡ true) drawn_met d e l q) h
  job_met j e h = h

  job_kept : (j : Job) (o : Option Op) → s.controller.job ≡ j
      → AfterJob (λ t. printed t ≡ tells s.config s.controller j (s.words name.Tick) ++ printed s) s j o
      → RetirementsKept s → AfterJob RetirementsKept s j o
  job_kept j None e lines h = tt
  job_kept j (Some o) e lines h = subst (λ ls. Met s.config (endings_in s.pipes ls) ls) (sym lines) (job_met j e h)

  -- ---- a packet enters

  enter_met : (p : ℕ) (v w : PipeView) → slice_get s.pipes p ≡ Some v → v.stage ≡ Idle → w.lines ≡ v.lines → RetirementsKept s
      → RetirementsKept (record s { pipes = slice_set s.pipes p w })
  enter_met p v w q e r h =
      subst (λ ls. Met s.config (endings_in (slice_set s.pipes p w) ls) ls) (sym (pipe_silent s p v w q r s.words))
      (supported (endings_in (slice_set s.pipes p w) (printed s))
      (supports_pipes (s.words name.Tick) s.pipes p v w (printed s) q (λ f g. none f (subst (λ z. list_any f (ending_at z) ≡ true) e g))) h)
    where
      none : (f : EndingPacket → Bool) → list_any f [] ≡ true → list_any f (ending_at w.stage) ≡ true
      none f t = cc

pub retirements_keep : Keeps IsPacket Invariant RetirementsKept
retirements_keep = record {
  stages = λ s p v a q e i h. stage_kept s i p v a (pipe_op s.config.layout v a) q e (stage_prints s p v a i.ticks q) h;
  begins = λ s i h. h;
  jobs = λ s j e b i h. job_kept s i j (job_op s.config s.controller j) e (job_tells s j i.ticks) h;
  enters = λ s p v packet q r u n a i h. enter_met s i p v (record v { stage = Enter packet }) q (idle v.stage r) refl h;
  clocks = λ s ms q i h. h;
  refusals = λ s q i h. h;
}

pub retirements_part : (s : Core) → Invariant s → RetirementsKept s
retirements_part s i =
    each_part (setup_of s.config) (endings_in s.pipes (printed s)) (λ before l. meets_retire (setup_of s.config) (endings_in s.pipes (printed s)) before l ≡ true)
    (λ before l m. m.retire) (printed s) i.causes.causes.clauses

opened_met : (setup : SetupView) (endings : List EndingPacket) (n : ℕ) → EachLine (λ before l. meets_retire setup endings before l ≡ true) (opened_lines n)
unfolding meets_retire
opened_met setup endings zero = tt
opened_met setup endings (suc n) = (refl, opened_met setup endings n)

pub retirements_open : OpensWith RetirementsKept
retirements_open k f =
    subst (λ ls. Met k (endings_in (opening k).pipes ls) ls) (sym (opening_printed k))
    (opened_met (setup_of k) (endings_in (opening k).pipes (opened_lines k.layout.vips)) k.layout.vips)
