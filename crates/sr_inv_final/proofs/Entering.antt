-- Each packet that entered is in hand or has its line.
use Rattle.std.proofs.Common.{◌≡◌, ℕ, ◌+◌, ◌^◌, ◌&&◌, nat_lt, Bool, true, false, List, [], ◌∷◌, ◌++◌, length, slice_get, slice_set, sum_by, count_by, option_to_list, option_map, option_and_then, if◌then◌else◌, Option, Some, None, sym, refl, ap, ◌∙◌, arith}
use Rattle.std.proofs.lemmas.List.Sums.{sum_by-append, sum_by-cons}
use Rattle.std.proofs.lemmas.Option.{same_Some}
use Rattle.sr_base.specs.Layout.{LayoutView}
use Rattle.sr_base.specs.declared.packet.Packet.{Packet}
use Rattle.sr_inv_facts.proofs.Pipes.{idle}
use Rattle.sr_inv_facts.proofs.Sums.{sum_at}
use Rattle.sr_inv_final.specs.Reached.{entered_by, entered_in}
use Rattle.sr_law.specs.Final.{packet_by, packets_of, same_packet}
use Rattle.sr_law.specs.declared.line.Line.{Line}
use Rattle.sr_machine.proofs.Kept.{event_keeps}
use Rattle.sr_machine.specs.Core.{Core, enters, run, step_event}
use Rattle.sr_machine.specs.Jobs.{job_op}
use Rattle.sr_machine.specs.Keeping.{AfterJob, AfterStage, Brings, Keeps}
use Rattle.sr_machine.specs.Ops.{op_answer, op_name}
use Rattle.sr_machine.specs.Pipe.{has_vip, is_idle, lines_after, packet_line, pipe_after, pipe_op}
use Rattle.sr_machine.specs.Stages.{stage_after}
use Rattle.sr_machine.specs.declared.event.Event.{Event}
use Rattle.sr_machine.specs.declared.event.Event.TheVariants as event
use Rattle.sr_machine.specs.declared.job.Job.{Job}
use Rattle.sr_machine.specs.declared.leg.Leg.TheVariants.{Judged}
use Rattle.sr_machine.specs.declared.op.Op.{Op}
use Rattle.sr_machine.specs.declared.pipe_view.PipeView.{PipeView}
use Rattle.sr_machine.specs.declared.stage.Stage.{Stage}
use Rattle.sr_machine.specs.declared.stage.Stage.TheVariants.{Idle, Enter, Note, Vip, Fly, Leave}
use Rattle.sr_machine.specs.declared.leg.Last.TheVariants as last

-- the packet in hand, until its line is printed
abbrev pub hand_of : Stage → List Packet
hand_of Idle = []
hand_of (Enter packet) = packet ∷ []
hand_of (Note packet entered) = packet ∷ []
hand_of (Vip packet entered) = packet ∷ []
hand_of (Fly f leg) = f.packet ∷ []
hand_of (Leave f) = []

module _ (packet : Packet) where
  -- how often the packet is in a list
  abbrev pub times : List Packet → ℕ
  times packets = count_by (same_packet packet) packets

  -- how often a line tells of it
  abbrev pub told_times : Line → ℕ
  told_times l = times (option_to_list (packet_by l))

  times_more : (xs ys : List Packet) → times (xs ++ ys) ≡ times xs + times ys
  times_more xs ys = sum_by-append (λ x. if same_packet packet x then 1 else 0) xs ys

  pub told_sum : (lines : List Line) → times (packets_of lines) ≡ sum_by told_times lines
  told_sum [] = refl
  told_sum (l ∷ rest) =
      omega (arith, times_more (option_to_list (packet_by l)) (packets_of rest), told_sum rest, sum_by-cons told_times l rest)

  -- how often it came on a pipe
  abbrev pub came : PipeView → ℕ
  came v = sum_by told_times v.lines + times (hand_of v.stage)

  -- ---- a step

  came_on : (l : LayoutView) (number x : ℕ) (a : Stage) (lines : List Line)
      → sum_by told_times (lines_after number a x lines) + times (hand_of (stage_after l a x)) ≡ sum_by told_times lines + times (hand_of a)
  came_on l number x (Fly f (Judged v last.Out)) lines =
      omega (arith, sum_by-append told_times lines (packet_line number f v x ∷ []), sum_by-cons told_times (packet_line number f v x) [])
  came_on l number x a lines = refl

  came_stage : (n : ℕ) (s : Core) (p : ℕ) (v : PipeView) (a : Stage) (o : Option Op) → slice_get s.pipes p ≡ Some v → v.stage ≡ a
      → sum_by came s.pipes ≡ n
      → AfterStage (λ u. sum_by came u.pipes ≡ n) s p v a o
  came_stage n s p v a None q e h = tt
  came_stage n s p v a (Some o) q e h =
      let x = op_answer o (s.words (op_name o)) in
      let w = pipe_after s.config.layout v a x in
      let same : came w ≡ came v =
      came_on s.config.layout v.number x a v.lines ∙ ap (λ b. sum_by told_times v.lines + times (hand_of b)) (sym e) in
      omega (arith, same, h, sum_at came s.pipes p v w q)

  came_job : (n : ℕ) (s : Core) (j : Job) (o : Option Op) → sum_by came s.pipes ≡ n → AfterJob (λ u. sum_by came u.pipes ≡ n) s j o
  came_job n s j None h = tt
  came_job n s j (Some o) h = h

  -- all that brings no packet in
  came_keeps : (n : ℕ) → Keeps (λ y. ⊥) (λ s. Unit {0}) (λ s. sum_by came s.pipes ≡ n)
  came_keeps n = record {
    stages = λ s p v a q e b h. came_stage n s p v a (pipe_op s.config.layout v a) q e h;
    begins = λ s b h. h;
    jobs = λ s j q r b h. came_job n s j (job_op s.config s.controller j) h;
    enters = λ s p v y q r u m a b h. absurd a;
    clocks = λ s ms q b h. h;
    refusals = λ s q b h. h;
  }

  pub came_still : (s t : Core) (e : Event) → Brings (λ y. ⊥) e → step_event e s ≡ Some t → sum_by came t.pipes ≡ sum_by came s.pipes
  came_still s t e a q =
      event_keeps (λ y. ⊥) (λ s. Unit {0}) (λ u. sum_by came u.pipes ≡ sum_by came s.pipes) (came_keeps (sum_by came s.pipes)) s t tt tt refl e a q

  -- a packet that comes in
  came_in : (s t : Core) (p : ℕ) (y : Packet) (o : Option PipeView) → slice_get s.pipes p ≡ o
      → option_and_then (enters s p y) o ≡ Some t → sum_by came t.pipes ≡ sum_by came s.pipes + times (y ∷ [])
  came_in s t p y None q e = cc
  came_in s t p y (Some v) q e =
      at (is_idle v.stage) (has_vip s.config.layout y) (nat_lt (length v.lines + 1) (2 ^ 32)) refl e
    where
      at : (i h n : Bool) → is_idle v.stage ≡ i
          → option_map (λ w. record s { pipes = slice_set s.pipes p w }) (if i && (h && n) then Some (record v { stage = Enter y }) else None) ≡ Some t
          → sum_by came t.pipes ≡ sum_by came s.pipes + times (y ∷ [])
      at true true true i e =
          let none : times (hand_of v.stage) ≡ 0 = ap (λ a. times (hand_of a)) (idle v.stage i) in
          let is = ap (λ u. sum_by came u.pipes) (same_Some _ t e) in
          omega (arith, is, none, sum_at came s.pipes p v (record v { stage = Enter y }) q)
      at true true false i e = cc
      at true false n i e = cc
      at false h n i e = cc

  came_after : (s t : Core) (e : Event) → step_event e s ≡ Some t → sum_by came t.pipes ≡ sum_by came s.pipes + times (entered_by e)
  came_after s t (event.Enter p y) q = came_in s t p y (slice_get s.pipes p) refl q
  came_after s t (event.Due ms) q = omega (arith, came_still s t (event.Due ms) tt q)
  came_after s t event.Refuse q = omega (arith, came_still s t event.Refuse tt q)
  came_after s t (event.Step a) q = omega (arith, came_still s t (event.Step a) tt q)

  -- ---- a run

  -- what came on all pipes is what entered
  pub came_in_run : (events : List Event) (s t : Core) → run events s ≡ Some t
      → sum_by came t.pipes ≡ sum_by came s.pipes + times (entered_in events)
  came_in_run [] s t e = omega (arith, ap (λ u. sum_by came u.pipes) (same_Some s t e))
  came_in_run (e ∷ rest) s t q = by (step_event e s) refl q (λ u. came_in_run rest u t)
    where
      by : (o : Option Core) → step_event e s ≡ o → option_and_then (run rest) o ≡ Some t
          → ((u : Core) → run rest u ≡ Some t → sum_by came t.pipes ≡ sum_by came u.pipes + times (entered_in rest))
          → sum_by came t.pipes ≡ sum_by came s.pipes + times (entered_by e ++ entered_in rest)
      by None r q more = cc
      by (Some u) r q more =
          omega (arith, more u q, came_after s u e r, times_more (entered_by e) (entered_in rest))
