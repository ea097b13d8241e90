-- A step of a pipe keeps the whole family.
use Rattle.std.proofs.Common.{◌≡◌, ℕ, zero, suc, ◌-◌, ◌<◌, Bool, true, false, ◌&&◌, ◌≢◌, List, [], ◌∷◌, ◌++◌, if◌then◌else◌, ◌==◌, slice_get, slice_set, Some, None, Option, sym, refl, ap, ◌∙◌, subst, arith}
use Rattle.std.proofs.lemmas.Bool.Decides.{nat_tests}
use Rattle.std.proofs.lemmas.Option.{slice_get_within}
use Rattle.sr_base.specs.Key.{KeyView}
use Rattle.sr_base.specs.declared.packet.Packet.{Packet}
use Rattle.sr_inv_facts.proofs.Lists.{all_then}
use Rattle.sr_inv_facts.proofs.Pipes.{set_cases}
use Rattle.sr_inv_facts.specs.InHeld.{AnswersHeld, InHeld, IsHeld, PipeHeld, Waiting, held_of}
use Rattle.sr_inv_facts.specs.Invariant.{Invariant}
use Rattle.sr_inv_facts.specs.Readings.{ring_words}
use Rattle.sr_inv_held.proofs.PipeHelds.{Grown, IsQuiet, pipe_same, quiet_goes}
use Rattle.sr_inv_held.proofs.StageHelds.{GrownAt, grown_stage}
use Rattle.sr_law.specs.declared.line.Line.{Line}
use Rattle.sr_machine.specs.Core.{Core}
use Rattle.sr_machine.specs.Deciding.{ring_count}
use Rattle.sr_machine.specs.Keeping.{AfterStage}
use Rattle.sr_machine.specs.Ops.{op_answer, op_name, op_words}
use Rattle.sr_machine.specs.Pipe.{pipe_after, pipe_op}
use Rattle.sr_machine.specs.Stages.{report_of}
use Rattle.sr_machine.specs.declared.leg.Leg.TheVariants.{Chosen, Judged}
use Rattle.sr_machine.specs.declared.name.Name.{Name}
use Rattle.sr_machine.specs.declared.op.Op.{Op}
use Rattle.sr_machine.specs.declared.pipe_view.PipeView.{PipeView}
use Rattle.sr_machine.specs.declared.stage.Stage.{Stage}
use Rattle.sr_machine.specs.declared.stage.Stage.TheVariants.{Idle, Enter, Fly}
use Rattle.sr_update.proofs.Rows.{get_set_same}
use Rattle.sr_machine.specs.declared.leg.Last.TheVariants as last
use Rattle.sr_machine.specs.declared.leg.Load.TheVariants as load
use Rattle.sr_law.specs.declared.line.Line.TheVariants as line
use Rattle.sr_machine.specs.declared.name.Name.TheVariants as name

-- ---- what is held stays held

got_front : {X : Type 0} (xs ys : List X) (n : ℕ) (x : X) → slice_get xs n ≡ Some x → slice_get (xs ++ ys) n ≡ Some x
got_front [] ys n x e = cc
got_front (y ∷ xs) ys zero x e = e
got_front (y ∷ xs) ys (suc n) x e = got_front xs ys n x e

module _ (pipes : List PipeView) (p : ℕ) (v w : PipeView) (q : slice_get pipes p ≡ Some v) (more : List Waiting) (held : held_of w ≡ held_of v ++ more) where
  -- a held opener is held still
  held_grows : (pipe nth : ℕ) (key : KeyView) (P : Waiting → Type 0) → IsHeld pipes pipe nth key P → IsHeld (slice_set pipes p w) pipe nth key P
  held_grows pipe nth key P h u e =
      set_cases pipes p v w q (λ n z. n ≡ pipe → (x : Waiting) × (slice_get (held_of z) (nth - 1) ≡ Some x) × (x.key ≡ key) × P x)
      (λ same.
      let was = h v (subst (λ n. slice_get pipes n ≡ Some v) same q) in
      (was.0, ap (λ xs. slice_get xs (nth - 1)) held ∙ got_front (held_of v) more (nth - 1) was.0 was.1, was.2, was.3))
      (λ n z apart r same. h z (subst (λ m. slice_get pipes m ≡ Some z) same r)) pipe u e refl

  answer_grows : (l : Line) → AnswersHeld pipes l → AnswersHeld (slice_set pipes p w) l
  answer_grows (line.Answer out pipe nth key v) h = held_grows pipe nth key (λ x. x.entered < out) h
  answer_grows l h = tt

module _ (s : Core) (i : Invariant s) (p : ℕ) (v : PipeView) (q : slice_get s.pipes p ≡ Some v) where
  -- the words of the other rings
  abbrev OtherRings : Core → Type 0
  OtherRings t = (n cell : ℕ) → n ≢ p → t.words (name.Ring n cell) ≡ s.words (name.Ring n cell)

  other_rings : (a : Stage) → v.stage ≡ a → AfterStage OtherRings s p v a (pipe_op s.config.layout v a)
  other_rings Idle e = tt
  other_rings (Fly f (Judged w last.Push)) e = λ n cell apart. at n cell (v.number == n) (grind (arith, nat_tests, i.shape.pipes.number p v q)) _
    where
      at : (n cell : ℕ) (a : Bool) → a ≡ false → (b : Bool) → (if a && b then report_of f w else s.words (name.Ring n cell)) ≡ s.words (name.Ring n cell)
      at n cell true x b = cc
      at n cell false x b = refl
  other_rings (Fly f (Chosen n load.Head)) e = λ n cell apart. refl
  other_rings a e = λ n cell apart. refl

  held_after : (words : Name → ℕ) (w : PipeView) → Grown s.config.layout (ring_words words p) (ring_count s.controller.rings p) v w
      → ((n cell : ℕ) → n ≢ p → words (name.Ring n cell) ≡ s.words (name.Ring n cell))
      → InHeld (record s { words = words; pipes = slice_set s.pipes p w })
  held_after words w g others = record {
    held = record {
      pipe =
          set_cases s.pipes p v w q (λ n u. PipeHeld s.config.layout (ring_words words n) (ring_count s.controller.rings n) u) g.holds
          (λ n u apart r. pipe_same s.config.layout (ring_words s.words n) (ring_count s.controller.rings n) u (i.held.held.pipe n u r) (ring_words words n) (λ cell. others n cell apart));
      opener =
          all_then (λ h. IsHeld s.pipes h.pipe h.nth h.key (λ x. Unit {0})) (λ h. IsHeld (slice_set s.pipes p w) h.pipe h.nth h.key (λ x. Unit {0}))
          (λ h old. held_grows s.pipes p v w q g.more g.held h.pipe h.nth h.key (λ x. Unit {0}) old) s.controller.held i.held.held.opener;
      once = i.held.held.once;
      answer =
          all_then (AnswersHeld s.pipes) (AnswersHeld (slice_set s.pipes p w)) (answer_grows s.pipes p v w q g.more g.held) s.controller.lines i.held.held.answer;
    };
  }

  stage_after_all : (a : Stage) (o : Option Op) → AfterStage (GrownAt s i p v q) s p v a o → AfterStage OtherRings s p v a o → AfterStage InHeld s p v a o
  stage_after_all a None g others = tt
  stage_after_all a (Some o) g others =
      let w = pipe_after s.config.layout v a (op_answer o (s.words (op_name o))) in
      held_after (op_words s.words o) w (g w (get_set_same s.pipes p w (slice_get_within s.pipes p v q))) others

  pub stage_kept : (a : Stage) → v.stage ≡ a → AfterStage InHeld s p v a (pipe_op s.config.layout v a)
  stage_kept a e = stage_after_all a (pipe_op s.config.layout v a) (grown_stage s i p v q a e) (other_rings a e)

  -- a packet enters
  pub enter_kept : (packet : Packet) → v.stage ≡ Idle → InHeld (record s { pipes = slice_set s.pipes p (record v { stage = Enter packet }) })
  enter_kept packet e =
      held_after s.words (record v { stage = Enter packet })
      (quiet_goes s.config.layout (ring_words s.words p) (ring_count s.controller.rings p) v (i.held.held.pipe p v q) (record v { stage = Enter packet }) refl refl (subst IsQuiet (sym e) (refl, refl)) refl)
      (λ n cell apart. refl)
