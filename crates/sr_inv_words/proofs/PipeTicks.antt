-- A pipe's steps keep the tick and the notes.
use Rattle.std.proofs.Common.{◌≡◌, ℕ, ◌+◌, ◌*◌, ◌%◌, ◌^◌, ◌<◌, ◌≤◌, Bool, true, false, length, if◌then◌else◌, ◌==◌, slice_get, slice_set, Some, sym, refl, ap, ◌∙◌, mod-eq_of_lt, arith, length-append}
use Rattle.std.proofs.lemmas.Bool.Decides.{nat_tests}
use Rattle.sr_inv_facts.proofs.Pipes.{each_set, each_turns}
use Rattle.sr_inv_facts.specs.InWords.{note_of, pipe_ticks, stage_ticks, ticks_of}
use Rattle.sr_inv_facts.specs.Invariant.{Invariant}
use Rattle.sr_inv_facts.specs.Readings.{EachPipe}
use Rattle.sr_inv_facts.proofs.Sums.{sum_at, sum_most}
use Rattle.sr_law.specs.declared.line.Line.{Line}
use Rattle.sr_machine.specs.Core.{Core}
use Rattle.sr_machine.specs.Keeping.{AfterStage}
use Rattle.sr_machine.specs.Names.{rewritten}
use Rattle.sr_machine.specs.Pipe.{pipe_op}
use Rattle.sr_machine.specs.declared.leg.Leg.TheVariants.{Chosen, Judged}
use Rattle.sr_machine.specs.declared.pipe_view.PipeView.{PipeView}
use Rattle.sr_machine.specs.declared.stage.Stage.{Stage}
use Rattle.sr_machine.specs.declared.stage.Stage.TheVariants.{Idle, Enter, Note, Vip, Fly, Leave}
use Rattle.sr_machine.specs.declared.leg.Last.TheVariants as last
use Rattle.sr_machine.specs.declared.leg.Load.TheVariants as load
use Rattle.sr_machine.specs.declared.name.Name.TheVariants as name

-- a stage has drawn one tick that is in no line, or none
pub stage_ticks_most : (a : Stage) → stage_ticks a ≤ 1
stage_ticks_most (Note packet entered) = omega arith
stage_ticks_most (Vip packet entered) = omega arith
stage_ticks_most (Fly f leg) = omega arith
stage_ticks_most a = omega arith

abbrev pub TickIs : Core → Type 0
TickIs s = s.words name.Tick ≡ (1 + s.config.layout.vips + s.controller.drawn) + pipe_ticks s.pipes

abbrev pub NotesAre : Core → Type 0
NotesAre s = EachPipe (λ p v. s.words (name.Note p) ≡ note_of v.stage) s.pipes

-- the tick doesn't wrap
pub tick_room : (s : Core) → Invariant s → s.words name.Tick + 1 < 2 ^ 63
tick_room s i =
    let most : pipe_ticks s.pipes ≤ length s.pipes * (2 ^ 33 + 1) =
    sum_most ticks_of (2 ^ 33 + 1) s.pipes (λ p v e. omega (arith, stage_ticks_most v.stage, (i.ticks.pipes p v e).few)) in
    omega (arith, most, i.words.tick, i.shape.pipes.count, i.shape.config.layout.pipes.1, i.shape.config.layout.vips.1, i.ticks.controller.drawn)

pub next_tick : (n : ℕ) → n + 1 < 2 ^ 63 → (n + 1) % 2 ^ 64 ≡ n + 1
next_tick n h = mod-eq_of_lt (omega arith)

module _ (s : Core) (i : Invariant s) (p : ℕ) (v : PipeView) (q : slice_get s.pipes p ≡ Some v) where
  -- a pipe draws a tick, or doesn't
  tick_more : (w : PipeView) → ticks_of w ≡ ticks_of v + 1
      → (s.words name.Tick + 1) % 2 ^ 64 ≡ (1 + s.config.layout.vips + s.controller.drawn) + pipe_ticks (slice_set s.pipes p w)
  tick_more w more =
      next_tick (s.words name.Tick) (tick_room s i) ∙ omega (arith, more, sum_at ticks_of s.pipes p v w q, i.words.tick)

  pub tick_same : (w : PipeView) → ticks_of w ≡ ticks_of v
      → s.words name.Tick ≡ (1 + s.config.layout.vips + s.controller.drawn) + pipe_ticks (slice_set s.pipes p w)
  tick_same w same = omega (arith, same, sum_at ticks_of s.pipes p v w q, i.words.tick)

  pub tick_stage : (a : Stage) → v.stage ≡ a → AfterStage TickIs s p v a (pipe_op s.config.layout v a)
  tick_stage Idle e = tt
  tick_stage (Enter packet) e = let z : stage_ticks v.stage ≡ 0 = ap stage_ticks e in tick_more _ (omega (arith, z))
  tick_stage (Note packet entered) e = let z : stage_ticks v.stage ≡ 1 = ap stage_ticks e in tick_same _ (omega (arith, z))
  tick_stage (Vip packet entered) e = let z : stage_ticks v.stage ≡ 1 = ap stage_ticks e in tick_same _ (omega (arith, z))
  tick_stage (Fly f (Judged w last.Out)) e =
      let z : stage_ticks v.stage ≡ 1 = ap stage_ticks e in
      tick_more _ (omega (arith, z, length-append {A = Line}))
  tick_stage (Fly f (Chosen n load.Head)) e = let z : stage_ticks v.stage ≡ 1 = ap stage_ticks e in tick_same _ (omega (arith, z))
  tick_stage (Fly f leg) e = let z : stage_ticks v.stage ≡ 1 = ap stage_ticks e in tick_same _ (omega (arith, z))
  tick_stage (Leave f) e = let z : stage_ticks v.stage ≡ 0 = ap stage_ticks e in tick_same _ (omega (arith, z))

  -- where the notes are as they were, and the pipe's is what its stage asks
  pub note_same : (w : PipeView) → note_of w.stage ≡ note_of v.stage → EachPipe (λ n u. s.words (name.Note n) ≡ note_of u.stage) (slice_set s.pipes p w)
  note_same w same = each_set s.pipes p v w q (λ n u. s.words (name.Note n) ≡ note_of u.stage) i.words.note (i.words.note p v q ∙ sym same)

  note_stored : (w : PipeView) (x : ℕ) → note_of w.stage ≡ x
      → EachPipe (λ n u. rewritten s.words (name.Note v.number) x (name.Note n) ≡ note_of u.stage) (slice_set s.pipes p w)
  note_stored w x is =
      each_turns s.pipes p v w q (λ n u. s.words (name.Note n) ≡ note_of u.stage)
      (λ n u. rewritten s.words (name.Note v.number) x (name.Note n) ≡ note_of u.stage) i.words.note
      (at p (v.number == p) (grind (arith, nat_tests, i.shape.pipes.number p v q)) ∙ sym is)
      (λ n u ne r h. apart n (v.number == n) (grind (arith, nat_tests, i.shape.pipes.number p v q)) ∙ h)
    where
      at : (n : ℕ) (t : Bool) → t ≡ true → (if t then x else s.words (name.Note n)) ≡ x
      at n true e = refl
      at n false e = cc

      apart : (n : ℕ) (t : Bool) → t ≡ false → (if t then x else s.words (name.Note n)) ≡ s.words (name.Note n)
      apart n true e = cc
      apart n false e = refl

  pub note_stage : (a : Stage) → v.stage ≡ a → AfterStage NotesAre s p v a (pipe_op s.config.layout v a)
  note_stage Idle e = tt
  note_stage (Enter packet) e = note_same _ (sym (ap note_of e))
  note_stage (Note packet entered) e = note_stored _ entered refl
  note_stage (Vip packet entered) e = note_same _ (sym (ap note_of e))
  note_stage (Fly f (Judged w last.Out)) e = note_same _ (sym (ap note_of e))
  note_stage (Fly f (Chosen n load.Head)) e = note_same _ (sym (ap note_of e))
  note_stage (Fly f leg) e = note_same _ (sym (ap note_of e))
  note_stage (Leave f) e = note_stored _ 0 refl
