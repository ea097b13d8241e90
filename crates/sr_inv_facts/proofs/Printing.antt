-- The lines of a state after a step: as they were, or one line more, which is the newest.
use Rattle.std.proofs.Common.{◌≡◌, ℕ, zero, suc, ◌+◌, ◌<◌, ◌≤◌, Bool, true, false, ◌&&◌, List, [], ◌∷◌, ◌++◌, if◌then◌else◌, nat_lt, nat_le, slice_get, slice_set, Some, None, sum_by, Option, option_to_list, sym, refl, ap, ◌∙◌, subst, inl, inr, append_assoc, append-nil, arith}
use Rattle.std.proofs.lemmas.Bool.Decides.{nat_tests}
use Rattle.std.proofs.lemmas.List.Sums.{sum_by-append, sum_by-cons}
use Rattle.std.proofs.lemmas.Option.{same_Some}
use Rattle.std.specs.List.{AllByRecursion}
use Rattle.sr_base.specs.declared.vip_word.Phase.{Phase}
use Rattle.sr_base.specs.declared.vip_word.Phase.TheVariants.{Steady, Recording, Holding, Transit}
use Rattle.sr_inv_facts.proofs.Lists.{all_to_in}
use Rattle.sr_inv_facts.specs.InTicks.{AllOutBefore, InTicks, below, lines_times, pipe_times, same, line_times}
use Rattle.sr_inv_facts.specs.Readings.{In}
use Rattle.sr_law.specs.Ticks.{out_of}
use Rattle.sr_law.specs.declared.line.Line.{Line}
use Rattle.sr_machine.specs.Config.{Config}
use Rattle.sr_machine.specs.Core.{Core, newest_first, pipe_lines, printed, put_line}
use Rattle.sr_machine.specs.Draws.{draw_line, phase_line, with_line}
use Rattle.sr_machine.specs.Jobs.{job_op}
use Rattle.sr_machine.specs.Keeping.{AfterJob, AfterStage}
use Rattle.sr_machine.specs.Ops.{op_words, op_answer, op_name}
use Rattle.sr_machine.specs.Pipe.{packet_line, pipe_after, pipe_op, lines_after}
use Rattle.sr_machine.specs.declared.controller_view.ControllerView.{ControllerView}
use Rattle.sr_machine.specs.declared.draw.Draw.{Draw}
use Rattle.sr_machine.specs.declared.job.Job.{Job}
use Rattle.sr_machine.specs.declared.leg.Leg.TheVariants.{Judged}
use Rattle.sr_machine.specs.declared.name.Name.{Name}
use Rattle.sr_machine.specs.declared.op.Op.{Op}
use Rattle.sr_machine.specs.declared.pipe_view.PipeView.{PipeView}
use Rattle.sr_machine.specs.declared.pool_update.PoolUpdate.{PoolUpdate}
use Rattle.sr_machine.specs.declared.stage.Stage.{Stage}
use Rattle.sr_machine.specs.declared.stage.Stage.TheVariants.{Fly}
use Rattle.sr_machine.specs.declared.draw.Draw.TheVariants as draw
use Rattle.sr_machine.specs.declared.job.Job.TheVariants as job
use Rattle.sr_machine.specs.declared.leg.Last.TheVariants as last
use Rattle.sr_machine.specs.declared.name.Name.TheVariants as name
use Rattle.sr_machine.specs.declared.op.Op.TheVariants as op

-- ---- a line that is out after all others stands first

put_first : (x : Line) (lines : List Line) → AllOutBefore (out_of x) lines → put_line x lines ≡ x ∷ lines
put_first x [] a = refl
put_first x (y ∷ rest) a = at (nat_le (out_of y) (out_of x)) (grind (arith, nat_tests))
  where
    at : (b : Bool) → b ≡ true → (if b then x ∷ y ∷ rest else (y ∷ put_line x rest)) ≡ x ∷ y ∷ rest
    at true e = refl
    at false e = cc

put_behind : (x y : Line) (lines : List Line) → out_of y < out_of x → put_line y (x ∷ lines) ≡ x ∷ put_line y lines
put_behind x y lines h = at (nat_le (out_of x) (out_of y)) (grind (arith, nat_tests))
  where
    at : (b : Bool) → b ≡ false → (if b then y ∷ x ∷ lines else (x ∷ put_line y lines)) ≡ x ∷ put_line y lines
    at true e = cc
    at false e = refl

module _ (P : Line → Type 0) where
  put_all : (y : Line) (lines : List Line) → P y → AllByRecursion P lines → AllByRecursion P (put_line y lines)
  put_all y [] p a = (p, tt)
  put_all y (x ∷ rest) p a = at (nat_le (out_of x) (out_of y)) (put_all y rest p a.1)
    where
      at : (b : Bool) → AllByRecursion P (put_line y rest) → AllByRecursion P (if b then y ∷ x ∷ rest else (x ∷ put_line y rest))
      at true r = (p, a)
      at false r = (a.0, r)

  -- what holds of each line holds of each in their order
  pub newest_all : (lines : List Line) → AllByRecursion P lines → AllByRecursion P (newest_first lines)
  newest_all [] a = tt
  newest_all (x ∷ rest) a = put_all x (newest_first rest) a.0 (newest_all rest a.1)

pub newest_more : (x : Line) (xs ys : List Line) → AllOutBefore (out_of x) (xs ++ ys)
    → newest_first (xs ++ x ∷ ys) ≡ x ∷ newest_first (xs ++ ys)
newest_more x [] ys a = put_first x (newest_first ys) (newest_all (λ l. out_of l < out_of x) ys a)
newest_more x (y ∷ xs) ys a = ap (put_line y) (newest_more x xs ys a.1) ∙ put_behind x y (newest_first (xs ++ ys)) a.0

-- ---- all lines are out before the next tick

in_times : (l : Line) (lines : List Line) → In l lines → 1 ≤ lines_times (out_of l) lines
in_times l [] i = absurd i
in_times l (y ∷ rest) (inl e) =
    let one : 1 ≤ same (out_of l) (out_of y) = subst (λ z. 1 ≤ same (out_of l) (out_of z)) e (grind (arith, nat_tests)) in
    omega (arith, one, sum_by-cons (line_times (out_of l)) y rest)
in_times l (y ∷ rest) (inr i) = omega (arith, in_times l rest i, sum_by-cons (line_times (out_of l)) y rest)

times_joined : (t : ℕ) (xs ys : List Line) → lines_times t (xs ++ ys) ≡ lines_times t xs + lines_times t ys
times_joined t xs ys = sum_by-append (line_times t) xs ys

pipes_times : (t : ℕ) (pipes : List PipeView) → lines_times t (pipe_lines pipes) ≤ sum_by (pipe_times t) pipes
pipes_times t [] = omega arith
pipes_times t (v ∷ rest) =
    omega (arith, pipes_times t rest, times_joined t v.lines (pipe_lines rest), sum_by-cons (pipe_times t) v rest)

pub below_next : (t next : ℕ) → 1 ≤ below t next → t < next
below_next t next h = at (nat_lt 0 t) (nat_lt t next) refl refl h
  where
    at : (a b : Bool) → nat_lt 0 t ≡ a → nat_lt t next ≡ b → 1 ≤ (if a && b then 1 else 0) → t < next
    at true true p q g = grind (arith, nat_tests)
    at true false p q g = absurd (omega arith)
    at false b p q g = absurd (omega arith)

pub all_out : (s : Core) → InTicks s → AllOutBefore (s.words name.Tick) (pipe_lines s.pipes ++ s.controller.lines)
all_out s t =
    all_to_in (λ l. out_of l < s.words name.Tick) (pipe_lines s.pipes ++ s.controller.lines) (λ l i.
    let n = out_of l in
    below_next n (s.words name.Tick)
    (omega (arith, t.once n, in_times l (pipe_lines s.pipes ++ s.controller.lines) i, times_joined n (pipe_lines s.pipes) s.controller.lines, pipes_times n s.pipes)))

-- ---- the lines of pipes of which one changes

lines_kept : (pipes : List PipeView) (p : ℕ) (v w : PipeView) → slice_get pipes p ≡ Some v → w.lines ≡ v.lines
    → pipe_lines (slice_set pipes p w) ≡ pipe_lines pipes
lines_kept [] p v w q e = cc
lines_kept (u ∷ rest) zero v w q e = ap (λ xs. xs ++ pipe_lines rest) (e ∙ ap (λ z. z.lines) (sym (same_Some u v q)))
lines_kept (u ∷ rest) (suc p) v w q e = ap (λ xs. u.lines ++ xs) (lines_kept rest p v w q e)

-- where one has a line more, it stands somewhere among them
record Among (pipes : List PipeView) (p : ℕ) (w : PipeView) (x : Line) : Type 0 where
  front : List Line
  back : List Line
  were : pipe_lines pipes ≡ front ++ back
  are : pipe_lines (slice_set pipes p w) ≡ front ++ x ∷ back

lines_more : (pipes : List PipeView) (p : ℕ) (v w : PipeView) (x : Line) → slice_get pipes p ≡ Some v → w.lines ≡ v.lines ++ x ∷ []
    → Among pipes p w x
lines_more [] p v w x q e = cc
lines_more (u ∷ rest) zero v w x q e = record {
  front = v.lines;
  back = pipe_lines rest;
  were = ap (λ z. z.lines ++ pipe_lines rest) (same_Some u v q);
  are = ap (λ xs. xs ++ pipe_lines rest) e ∙ append_assoc v.lines (x ∷ []) (pipe_lines rest);
}
lines_more (u ∷ rest) (suc p) v w x q e = at (lines_more rest p v w x q e)
  where
    at : Among rest p w x → Among (u ∷ rest) (suc p) w x
    at a = record {
      front = u.lines ++ a.front;
      back = a.back;
      were = ap (λ xs. u.lines ++ xs) a.were ∙ sym (append_assoc u.lines a.front a.back);
      are = ap (λ xs. u.lines ++ xs) a.are ∙ sym (append_assoc u.lines a.front (x ∷ a.back));
    }

-- ---- a pipe's step

-- the line that a step of a pipe prints, if it does
abbrev pub prints : ℕ → Stage → ℕ → List Line
prints number (Fly f (Judged v last.Out)) x = packet_line number f v x ∷ []
prints number at x = []

pub pipe_silent : (s : Core) (p : ℕ) (v w : PipeView) → slice_get s.pipes p ≡ Some v → w.lines ≡ v.lines → (words : Name → ℕ)
    → printed (record s { words = words; pipes = slice_set s.pipes p w }) ≡ printed s
pipe_silent s p v w q e words = ap (λ xs. newest_first (xs ++ s.controller.lines)) (lines_kept s.pipes p v w q e)

pipe_tells : (s : Core) (p : ℕ) (v w : PipeView) (x : Line) → InTicks s → out_of x ≡ s.words name.Tick → slice_get s.pipes p ≡ Some v
    → w.lines ≡ v.lines ++ x ∷ []
    → (words : Name → ℕ)
    → printed (record s { words = words; pipes = slice_set s.pipes p w }) ≡ x ∷ printed s
pipe_tells s p v w x t o q e words = at (lines_more s.pipes p v w x q e)
  where
    at : Among s.pipes p w x → newest_first (pipe_lines (slice_set s.pipes p w) ++ s.controller.lines) ≡ x ∷ printed s
    at a =
        let whole : pipe_lines s.pipes ++ s.controller.lines ≡ a.front ++ (a.back ++ s.controller.lines) =
        ap (λ xs. xs ++ s.controller.lines) a.were ∙ append_assoc a.front a.back s.controller.lines in
        let outs : AllOutBefore (out_of x) (a.front ++ (a.back ++ s.controller.lines)) =
        subst (AllOutBefore (out_of x)) whole (subst (λ n. AllOutBefore n (pipe_lines s.pipes ++ s.controller.lines)) (sym o) (all_out s t)) in
        ap (λ xs. newest_first (xs ++ s.controller.lines)) a.are
        ∙ (ap newest_first (append_assoc a.front (x ∷ a.back) s.controller.lines)
        ∙ (newest_more x a.front (a.back ++ s.controller.lines) outs ∙ ap (λ xs. x ∷ newest_first xs) (sym whole)))

silent_after : (s : Core) (p : ℕ) (v : PipeView) (at : Stage) → slice_get s.pipes p ≡ Some v
    → ((x : ℕ) → lines_after v.number at x v.lines ≡ v.lines)
    → (o : Option Op) → AfterStage (λ t. printed t ≡ printed s) s p v at o
silent_after s p v at q e None = tt
silent_after s p v at q e (Some o) =
    let x = op_answer o (s.words (op_name o)) in
    pipe_silent s p v (pipe_after s.config.layout v at x) q (e x) (op_words s.words o)

pub stage_prints : (s : Core) (p : ℕ) (v : PipeView) (at : Stage) → InTicks s → slice_get s.pipes p ≡ Some v
    → AfterStage (λ t. printed t ≡ prints v.number at (s.words name.Tick) ++ printed s) s p v at (pipe_op s.config.layout v at)
stage_prints s p v (Fly f (Judged w last.Out)) t q =
    pipe_tells s p v (pipe_after s.config.layout v (Fly f (Judged w last.Out)) (s.words name.Tick)) (packet_line v.number f w (s.words name.Tick)) t refl q refl (op_words s.words (op.Adds name.Tick 1))
stage_prints s p v at t q = silent_after s p v at q (λ x. refl) (pipe_op s.config.layout v at)

-- ---- the controller's step

-- the line that it prints, if it does
abbrev pub tells : Config → ControllerView → Job → ℕ → List Line
tells k c (job.Draw d) x = option_to_list (draw_line k c d x)
tells k c j x = []

phase_out : (u : PoolUpdate) (p : Phase) (x : ℕ) → out_of (phase_line u x p) ≡ x
phase_out u Steady x = refl
phase_out u Recording x = refl
phase_out u Holding x = refl
phase_out u Transit x = refl

-- it is out at its tick
pub line_out : (k : Config) (c : ControllerView) (d : Draw) (x : ℕ) (l : Line) → draw_line k c d x ≡ Some l → out_of l ≡ x
line_out k c (draw.Grace w) x l e = cc
line_out k c (draw.Comes u p) x l e = ap out_of (sym (same_Some (phase_line u x p) l e)) ∙ phase_out u p x
line_out k c (draw.From ms) x l e = cc
line_out k c (draw.Refused n) x l e = ap out_of (sym (same_Some _ l e))
line_out k c (draw.TakenDown n) x l e = ap out_of (sym (same_Some _ l e))
line_out k c (draw.Given u) x l e = ap out_of (sym (same_Some _ l e))
line_out k c (draw.Reserved p) x l e = ap out_of (sym (same_Some _ l e))
line_out k c (draw.Placed p) x l e = ap out_of (sym (same_Some _ l e))
line_out k c (draw.Cleared key place w) x l e = ap out_of (sym (same_Some _ l e))
line_out k c (draw.Retired key place n) x l e = ap out_of (sym (same_Some _ l e))
line_out k c (draw.Answer r) x l e = ap out_of (sym (same_Some _ l e))
line_out k c (draw.Swept from ms) x l e = ap out_of (sym (same_Some _ l e))

draw_tells : (s : Core) (o : Option Line) → InTicks s → ((l : Line) → o ≡ Some l → out_of l ≡ s.words name.Tick)
    → newest_first (pipe_lines s.pipes ++ with_line s.controller.lines o) ≡ option_to_list o ++ printed s
draw_tells s None t e = refl
draw_tells s (Some l) t e =
    let whole : pipe_lines s.pipes ++ s.controller.lines ≡ (pipe_lines s.pipes ++ s.controller.lines) ++ [] =
    sym (append-nil (pipe_lines s.pipes ++ s.controller.lines)) in
    let outs : AllOutBefore (out_of l) ((pipe_lines s.pipes ++ s.controller.lines) ++ []) =
    subst (AllOutBefore (out_of l)) whole (subst (λ n. AllOutBefore n (pipe_lines s.pipes ++ s.controller.lines)) (sym (e l refl)) (all_out s t)) in
    ap newest_first (sym (append_assoc (pipe_lines s.pipes) s.controller.lines (l ∷ [])))
    ∙ (newest_more l (pipe_lines s.pipes ++ s.controller.lines) [] outs ∙ ap (λ xs. l ∷ newest_first xs) (sym whole))

pub job_tells : (s : Core) (j : Job) → InTicks s
    → AfterJob (λ t. printed t ≡ tells s.config s.controller j (s.words name.Tick) ++ printed s) s j (job_op s.config s.controller j)
job_tells s job.Free t = tt
job_tells s (job.Draw d) t =
    draw_tells s (draw_line s.config s.controller d (s.words name.Tick)) t (λ l e. line_out s.config s.controller d (s.words name.Tick) l e)
job_tells s j t = refl
