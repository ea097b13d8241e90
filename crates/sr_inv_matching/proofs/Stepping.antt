-- What steps leave of the words at places and in rings.
use Rattle.std.proofs.Common.{◌≡◌, ℕ, zero, suc, ◌<◌, ◌≤◌, Bool, true, false, true≢false, ◌&&◌, nat_lt, List, [], ◌∷◌, if◌then◌else◌, slice_get, sum_by, Some, sym, refl, ap, ◌∙◌, subst, arith}
use Rattle.std.proofs.lemmas.Option.{same_Some}
use Rattle.std.proofs.lemmas.Bool.Decides.{nat_tests}
use Rattle.std.proofs.lemmas.List.Sums.{sum_by-cons}
use Rattle.sr_base.specs.Layout.{LayoutView}
use Rattle.sr_base.specs.declared.place.Place.{Place}
use Rattle.sr_inv_facts.specs.InTicks.{InTicks, below, pipe_times, stage_times}
use Rattle.sr_inv_facts.specs.Readings.{entry_words}
use Rattle.sr_inv_facts.specs.InWords.{note_of}
use Rattle.sr_inv_facts.specs.Invariant.{Invariant}
use Rattle.sr_machine.specs.Core.{Core}
use Rattle.sr_machine.specs.Waiting.{is_under_way}
use Rattle.sr_machine.specs.Ops.{op_answer, op_name, op_words}
use Rattle.sr_machine.specs.Pipe.{pipe_op}
use Rattle.sr_machine.specs.declared.flight.Flight.{Flight}
use Rattle.sr_machine.specs.declared.leg.Leg.{Leg}
use Rattle.sr_machine.specs.declared.leg.Leg.TheVariants.{Look, Hit, Filter, Chosen, Judged}
use Rattle.sr_machine.specs.declared.leg.Load.TheVariants as load
use Rattle.sr_machine.specs.declared.leg.Last.TheVariants as last
use Rattle.sr_machine.specs.declared.name.Name.{Name}
use Rattle.sr_machine.specs.declared.name.Name.TheVariants as name
use Rattle.sr_machine.specs.declared.op.Op.{Op}
use Rattle.sr_machine.specs.declared.pipe_view.PipeView.{PipeView}
use Rattle.sr_machine.specs.declared.stage.Stage.{Stage}
use Rattle.sr_machine.specs.declared.stage.Stage.TheVariants.{Idle, Enter, Note, Vip, Fly, Leave}

-- ---- a pipe writes no entry

abbrev Unwritten : (Name → ℕ) → Op → Type 0
Unwritten words o = entry_words (op_words words o) ≡ entry_words words

stage_unwritten : (words : Name → ℕ) (l : LayoutView) (v : PipeView) (at : Stage) (o : Op) → pipe_op l v at ≡ Some o → Unwritten words o
stage_unwritten words l v Idle o e = cc
stage_unwritten words l v (Enter packet) o e = subst (Unwritten words) (same_Some _ o e) refl
stage_unwritten words l v (Note packet n) o e = subst (Unwritten words) (same_Some _ o e) refl
stage_unwritten words l v (Vip packet n) o e = subst (Unwritten words) (same_Some _ o e) refl
stage_unwritten words l v (Leave f) o e = subst (Unwritten words) (same_Some _ o e) refl
stage_unwritten words l v (Fly f (Look place rest)) o e = subst (Unwritten words) (same_Some _ o e) refl
stage_unwritten words l v (Fly f (Hit place n)) o e = subst (Unwritten words) (same_Some _ o e) refl
stage_unwritten words l v (Fly f (Filter bit rest)) o e = subst (Unwritten words) (same_Some _ o e) refl
stage_unwritten words l v (Fly f (Chosen n load.Head)) o e = subst (Unwritten words) (same_Some _ o e) refl
stage_unwritten words l v (Fly f (Chosen n (load.Member head))) o e = subst (Unwritten words) (same_Some _ o e) refl
stage_unwritten words l v (Fly f (Chosen n (load.Down pool server))) o e = subst (Unwritten words) (same_Some _ o e) refl
stage_unwritten words l v (Fly f (Judged w last.Ring)) o e = subst (Unwritten words) (same_Some _ o e) refl
stage_unwritten words l v (Fly f (Judged w (last.Mark bit rest))) o e = subst (Unwritten words) (same_Some _ o e) refl
stage_unwritten words l v (Fly f (Judged w last.Push)) o e = subst (Unwritten words) (same_Some _ o e) refl
stage_unwritten words l v (Fly f (Judged w last.Out)) o e = subst (Unwritten words) (same_Some _ o e) refl

pub stage_entries : (words : Name → ℕ) (l : LayoutView) (v : PipeView) (at : Stage) (o : Op) → pipe_op l v at ≡ Some o
    → entry_words (op_words words o) ≡ entry_words words
stage_entries words l v at o e = stage_unwritten words l v at o e

-- a look is answered the word at its place
pub look_answers : (words : Name → ℕ) (l : LayoutView) (v : PipeView) (at : Stage) (o : Op) → pipe_op l v at ≡ Some o → (f : Flight) (place : Place) (rest : List Place)
    → at ≡ Fly f (Look place rest) → op_answer o (words (op_name o)) ≡ entry_words words place
look_answers words l v at o e f place rest q =
    ap (λ z. op_answer z (words (op_name z))) (sym (same_Some _ o (sym (ap (pipe_op l v) q) ∙ e)))

-- ---- ticks of packets in flight

tick_of : (pipes : List PipeView) (p : ℕ) (v : PipeView) (f : Flight) (leg : Leg) → slice_get pipes p ≡ Some v → v.stage ≡ Fly f leg
    → 1 ≤ sum_by (pipe_times f.entered) pipes
tick_of [] p v f leg q e = cc
tick_of (u ∷ rest) zero v f leg q e =
    let one : 1 ≤ stage_times f.entered u.stage = subst (λ z. 1 ≤ stage_times f.entered z) (sym (ap (λ z. z.stage) (same_Some u v q) ∙ e)) (grind (arith, nat_tests)) in
    omega (arith, one, sum_by-cons (pipe_times f.entered) u rest)
tick_of (u ∷ rest) (suc p) v f leg q e = omega (arith, tick_of rest p v f leg q e, sum_by-cons (pipe_times f.entered) u rest)

below_parts : (t next : ℕ) → 1 ≤ below t next → (0 < t) × (t < next)
below_parts t next h = at (nat_lt 0 t) (nat_lt t next) refl refl h
  where
    at : (a b : Bool) → nat_lt 0 t ≡ a → nat_lt t next ≡ b → 1 ≤ (if a && b then 1 else 0) → (0 < t) × (t < next)
    at true true p q g = (grind (arith, nat_tests), grind (arith, nat_tests))
    at true false p q g = absurd (omega arith)
    at false b p q g = absurd (omega arith)

-- a packet in flight entered before the next tick, and not at 0
pub entered_drawn : (s : Core) → InTicks s → (p : ℕ) (v : PipeView) (f : Flight) (leg : Leg) → slice_get s.pipes p ≡ Some v → v.stage ≡ Fly f leg
    → (0 < f.entered) × (f.entered < s.words name.Tick)
entered_drawn s t p v f leg q e =
    below_parts f.entered (s.words name.Tick) (omega (arith, t.once f.entered, tick_of s.pipes p v f leg q e))

-- where its note is no tick from before the wait, the packet in hand entered after the wait began
pub not_way : (g x entered : ℕ) → is_under_way g x ≡ false → x ≡ entered → 0 < entered → entered < g → ⊥
not_way g x e t q a b =
    let yes_way : is_under_way g x ≡ true = grind (arith, nat_tests) in true≢false (sym yes_way ∙ t)

pub noted : (s : Core) → Invariant s → (grace pipe p : ℕ) (v : PipeView) (f : Flight) (leg : Leg) → slice_get s.pipes p ≡ Some v → v.stage ≡ Fly f leg
    → is_under_way grace (s.words (name.Note pipe)) ≡ false → p ≡ pipe → f.entered < grace → ⊥
noted s i grace pipe p v f leg r e t same b =
    let note : s.words (name.Note pipe) ≡ f.entered = ap (λ n. s.words (name.Note n)) (sym same) ∙ (i.words.note p v r ∙ ap note_of e) in
    not_way grace (s.words (name.Note pipe)) f.entered t note (entered_drawn s i.ticks p v f leg r e).0 b
