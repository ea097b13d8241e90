-- How many packets came on the pipes of a state, and how often one of them did; and what each event makes of that.
use Rattle.std.proofs.Common.{◌≡◌, ℕ, zero, suc, ◌+◌, ◌^◌, ◌&&◌, nat_lt, true, List, [], ◌∷◌, length, map, slice_get, slice_set, sum_by, option_map, option_and_then, unwrap_or, if◌then◌else◌, Option, Some, None, sym, refl, ap, ◌∙◌, subst, arith}
use Rattle.std.proofs.lemmas.List.{length-append}
use Rattle.std.proofs.lemmas.List.FromFn.{length-map-range_with_len}
use Rattle.std.proofs.lemmas.List.Sums.{sum_by-cons}
use Rattle.std.specs.List.{range_with_len}
use Rattle.sr_base.specs.Layout.{LayoutView}
use Rattle.sr_base.specs.declared.packet.Packet.{Packet}
use Rattle.sr_inv_facts.proofs.Lists.{length_set}
use Rattle.sr_inv_facts.proofs.Pipes.{idle}
use Rattle.sr_inv_facts.proofs.Sums.{sum_at}
use Rattle.sr_inv_final.proofs.Entering.{came, came_still, hand_of, times}
use Rattle.sr_inv_final.proofs.SamePackets.{none_came}
use Rattle.sr_law.specs.declared.line.Line.{Line}
use Rattle.sr_machine.proofs.Kept.{event_keeps}
use Rattle.sr_machine.specs.Config.{Config}
use Rattle.sr_machine.specs.Core.{Core, enters, opening, step_event, with_view}
use Rattle.sr_machine.specs.Jobs.{job_op}
use Rattle.sr_machine.specs.Keeping.{AfterJob, AfterStage, Brings, Keeps}
use Rattle.sr_machine.specs.Opening.{opening_pipes}
use Rattle.sr_machine.specs.Ops.{op_answer, op_name}
use Rattle.sr_machine.specs.Pipe.{fresh_pipe, has_vip, is_idle, lines_after, packet_line, pipe_after, pipe_op}
use Rattle.sr_machine.specs.Stages.{stage_after}
use Rattle.sr_machine.specs.declared.actor.Actor.TheVariants as actor
use Rattle.sr_machine.specs.declared.event.Event.{Event}
use Rattle.sr_machine.specs.declared.event.Event.TheVariants as event
use Rattle.sr_machine.specs.declared.job.Job.{Job}
use Rattle.sr_machine.specs.declared.leg.Last.TheVariants as last
use Rattle.sr_machine.specs.declared.leg.Leg.TheVariants.{Judged}
use Rattle.sr_machine.specs.declared.op.Op.{Op}
use Rattle.sr_machine.specs.declared.pipe_view.PipeView.{PipeView}
use Rattle.sr_machine.specs.declared.stage.Stage.{Stage}
use Rattle.sr_machine.specs.declared.stage.Stage.TheVariants.{Enter, Fly}
use Rattle.sr_machine.specs.declared.view.View.TheVariants.{OfPipe}
use Rattle.sr_picks.specs.Turn.{after}

-- how many packets came on a pipe: those that have a line, and the one in hand
abbrev pub came_on : PipeView → ℕ
came_on v = length v.lines + length (hand_of v.stage)

-- so many packets came on the pipes of this machine
record Counts (k : Config) (n : ℕ) (s : Core) : Type 0 where
  config : s.config ≡ k
  pipes : length s.pipes ≡ k.layout.shape.pipes
  all : sum_by came_on s.pipes ≡ n

-- so many packets came on the pipes of this machine, and this packet so often
pub record Stands (k : Config) (packet : Packet) (n m : ℕ) (s : Core) : Type 0 where
  pub config : s.config ≡ k
  pub pipes : length s.pipes ≡ k.layout.shape.pipes
  pub all : sum_by came_on s.pipes ≡ n
  pub own : sum_by (came packet) s.pipes ≡ m

-- ---- an event that lets no packet in

-- it lets none in
abbrev pub IsStill : Event → Type 0
IsStill e = Brings (λ y. ⊥) e

on_stage : (l : LayoutView) (number x : ℕ) (a : Stage) (lines : List Line)
    → length (lines_after number a x lines) + length (hand_of (stage_after l a x)) ≡ length lines + length (hand_of a)
on_stage l number x (Fly f (Judged v last.Out)) lines = omega (arith, length-append {A = Line} lines (packet_line number f v x ∷ []))
on_stage l number x a lines = refl

module _ (k : Config) (n : ℕ) where
  stage_counts : (s : Core) (p : ℕ) (v : PipeView) (a : Stage) (o : Option Op) → slice_get s.pipes p ≡ Some v → v.stage ≡ a
      → Counts k n s
      → AfterStage (Counts k n) s p v a o
  stage_counts s p v a None q e h = tt
  stage_counts s p v a (Some o) q e h =
      let x = op_answer o (s.words (op_name o)) in
      let w = pipe_after s.config.layout v a x in
      let same : came_on w ≡ came_on v =
      on_stage s.config.layout v.number x a v.lines ∙ ap (λ b. length v.lines + length (hand_of b)) (sym e) in record {
        config = h.config;
        pipes = length_set s.pipes p w ∙ h.pipes;
        all = let all = h.all in omega (arith, same, all, sum_at came_on s.pipes p v w q);
      }

  job_counts : (s : Core) (j : Job) (o : Option Op) → Counts k n s → AfterJob (Counts k n) s j o
  job_counts s j None h = tt
  job_counts s j (Some o) h = record { config = h.config; pipes = h.pipes; all = h.all }

  counts_keeps : Keeps (λ y. ⊥) (λ s. Unit {0}) (Counts k n)
  counts_keeps = record {
    stages = λ s p v a q e b h. stage_counts s p v a (pipe_op s.config.layout v a) q e h;
    begins = λ s b h. record { config = h.config; pipes = h.pipes; all = h.all };
    jobs = λ s j q r b h. job_counts s j (job_op s.config s.controller j) h;
    enters = λ s p v y q r u m a b h. absurd a;
    clocks = λ s ms q b h. record { config = h.config; pipes = h.pipes; all = h.all };
    refusals = λ s q b h. record { config = h.config; pipes = h.pipes; all = h.all };
  }

-- it changes none of it
pub still_stands : (k : Config) (packet : Packet) (n m : ℕ) (s t : Core) (e : Event) → Stands k packet n m s → IsStill e
    → step_event e s ≡ Some t → Stands k packet n m t
still_stands k packet n m s t e h a q =
    let first : Counts k n s = record { config = h.config; pipes = h.pipes; all = h.all } in
    let counts : Counts k n t = event_keeps (λ y. ⊥) (λ s. Unit {0}) (Counts k n) (counts_keeps k n) s t tt tt first e a q in record {
      config = counts.config;
      pipes = counts.pipes;
      all = counts.all;
      own = came_still packet s t e a q ∙ h.own;
    }

-- whether it can be made or not
pub after_stands : (k : Config) (packet : Packet) (n m : ℕ) (s : Core) (e : Event) → Stands k packet n m s → IsStill e
    → Stands k packet n m (after e s)
after_stands k packet n m s e h a = by (step_event e s) refl
  where
    by : (o : Option Core) → step_event e s ≡ o → Stands k packet n m (unwrap_or o s)
    by None q = h
    by (Some t) q = still_stands k packet n m s t e h a q

-- ---- a packet enters

-- where a pipe can take it, the event is made
entry_made : (s : Core) (p : ℕ) (v : PipeView) (y : Packet) → slice_get s.pipes p ≡ Some v → is_idle v.stage ≡ true
    → has_vip s.config.layout y ≡ true → nat_lt (length v.lines + 1) (2 ^ 32) ≡ true
    → after (event.Enter p y) s ≡ record s { pipes = slice_set s.pipes p (record v { stage = Enter y }) }
entry_made s p v y q i h n =
    let may : (is_idle v.stage && (has_vip s.config.layout y && nat_lt (length v.lines + 1) (2 ^ 32))) ≡ true = cc in
    ap (λ o. unwrap_or o s) (ap (option_and_then (enters s p y)) q
    ∙ ap (λ c. option_map (λ w. with_view s (actor.Pipe p) (OfPipe w)) (if c then Some (record v { stage = Enter y }) else None)) may)

-- and it is counted
pub entry_stands : (k : Config) (packet : Packet) (n m : ℕ) (s : Core) (p : ℕ) (v : PipeView) (y : Packet) → Stands k packet n m s
    → slice_get s.pipes p ≡ Some v → is_idle v.stage ≡ true
    → has_vip k.layout y ≡ true → nat_lt (length v.lines + 1) (2 ^ 32) ≡ true
    → Stands k packet (n + 1) (m + times packet (y ∷ [])) (after (event.Enter p y) s)
entry_stands k packet n m s p v y h q i f l =
    let w : PipeView = record v { stage = Enter y } in
    let none : length (hand_of v.stage) ≡ 0 = ap (λ a. length (hand_of a)) (idle v.stage i) in
    let no : times packet (hand_of v.stage) ≡ 0 = ap (λ a. times packet (hand_of a)) (idle v.stage i) in
    let there : Stands k packet (n + 1) (m + times packet (y ∷ [])) (record s { pipes = slice_set s.pipes p w }) = record {
      config = h.config;
      pipes = length_set s.pipes p w ∙ h.pipes;
      all = let all = h.all in omega (arith, none, all, sum_at came_on s.pipes p v w q);
      own = let own = h.own in omega (arith, no, own, sum_at (came packet) s.pipes p v w q);
    } in
    subst (Stands k packet (n + 1) (m + times packet (y ∷ []))) (sym (entry_made s p v y q i (ap (λ c. has_vip c.layout y) h.config ∙ f) l)) there

-- ---- the opening

fresh_counts : (a n : ℕ) → sum_by came_on (map fresh_pipe (range_with_len a n)) ≡ 0
fresh_counts a zero = refl
fresh_counts a (suc n) =
    omega (arith, sum_by-cons came_on (fresh_pipe a) (map fresh_pipe (range_with_len (a + 1) n)), fresh_counts (a + 1) n)

pub opening_stands : (k : Config) (packet : Packet) → Stands k packet 0 0 (opening k)
unfolding opening_pipes
opening_stands k packet = record {
  config = refl;
  pipes = length-map-range_with_len fresh_pipe 0 k.layout.shape.pipes;
  all = fresh_counts 0 k.layout.shape.pipes;
  own = none_came packet k;
}
