-- Reports of held openers in a ring, as a report comes into it or is taken out.
use Rattle.std.proofs.Common.{◌≡◌, ℕ, zero, suc, ◌+◌, ◌%◌, ◌<◌, ◌≤◌, Bool, true, false, List, [], ◌∷◌, ◌++◌, length, if◌then◌else◌, sym, refl, ap, ◌∙◌, append_assoc, append-nil, arith, length-append}
use Rattle.sr_base.specs.Key.{KeyView}
use Rattle.sr_base.specs.Layout.{LayoutView}
use Rattle.sr_base.specs.declared.kind.Kind.{Kind}
use Rattle.sr_base.specs.declared.kind.Kind.TheVariants.{Opener, Carry, Ending}
use Rattle.sr_inv_facts.specs.InHeld.{report_by, reports_in, report_at, reports_of, punt_in, punts_from, Waiting, after_held, held_at, held_in_line, held_in_lines, held_of, is_held}
use Rattle.sr_inv_facts.specs.InTicks.{same}
use Rattle.sr_law.specs.declared.line.Line.{Line}
use Rattle.sr_law.specs.declared.verdict.Verdict.{Verdict}
use Rattle.sr_machine.specs.Reads.{read_report}
use Rattle.sr_machine.specs.declared.flight.Flight.{Flight}
use Rattle.sr_machine.specs.declared.pipe_view.PipeView.{PipeView}
use Rattle.sr_machine.specs.declared.stage.Stage.{Stage}
use Rattle.sr_machine.specs.declared.stage.Stage.TheVariants as stage
use Rattle.sr_machine.specs.declared.leg.Leg.TheVariants as leg
use Rattle.sr_machine.specs.declared.leg.Last.TheVariants as last
use Rattle.sr_law.specs.declared.verdict.Verdict.TheVariants as verdict
use Rattle.sr_law.specs.declared.line.Line.TheVariants as line

-- ---- words of a ring

-- the same words tell the same
pub punts_same : (l : LayoutView) (ring after : ℕ → ℕ) (first count : ℕ)
    → ((n : ℕ) → first ≤ n → n < first + count → after (n % l.shape.ring) ≡ ring (n % l.shape.ring))
    → punts_from l after first count ≡ punts_from l ring first count
punts_same l ring after first zero same = refl
punts_same l ring after first (suc count) same =
    let rest : punts_from l after (first + 1) count ≡ punts_from l ring (first + 1) count =
    punts_same l ring after (first + 1) count (λ n low high. same n (omega arith) (omega arith)) in
    ap (λ x. punt_in (read_report l x) ++ punts_from l after (first + 1) count) (same first (omega arith) (omega arith))
    ∙ ap (λ xs. punt_in (read_report l (ring (first % l.shape.ring))) ++ xs) rest

-- one word more tells more
pub punts_more : (l : LayoutView) (ring : ℕ → ℕ) (first count : ℕ)
    → punts_from l ring first (suc count) ≡ punts_from l ring first count ++ punt_in (read_report l (ring ((first + count) % l.shape.ring)))
punts_more l ring first zero =
    append-nil (punt_in (read_report l (ring (first % l.shape.ring))))
    ∙ ap (λ n. punt_in (read_report l (ring (n % l.shape.ring)))) (omega arith)
punts_more l ring first (suc count) =
    ap (λ xs. punt_in (read_report l (ring (first % l.shape.ring))) ++ xs)
    (punts_more l ring (first + 1) count
    ∙ ap (λ n. punts_from l ring (first + 1) count ++ punt_in (read_report l (ring (n % l.shape.ring)))) (omega arith))
    ∙ sym (append_assoc (punt_in (read_report l (ring (first % l.shape.ring)))) (punts_from l ring (first + 1) count) (punt_in (read_report l (ring ((first + suc count) % l.shape.ring)))))

-- fewer words tell fewer
pub punts_fewer : (l : LayoutView) (ring : ℕ → ℕ) (first j count : ℕ) → j ≤ count
    → length (punts_from l ring first j) ≤ length (punts_from l ring first count)
punts_fewer l ring first zero count h = omega arith
punts_fewer l ring first (suc j) zero h = absurd (omega arith)
punts_fewer l ring first (suc j) (suc count) h =
    omega (arith, punts_fewer l ring (first + 1) j count (omega arith), length-append {A = KeyView})

-- ---- lines and reports

-- how many of some reports are of held openers
abbrev pub held_marks : List Bool → ℕ
held_marks [] = 0
held_marks (true ∷ rest) = 1 + held_marks rest
held_marks (false ∷ rest) = held_marks rest

marks_joined : (xs ys : List Bool) → held_marks (xs ++ ys) ≡ held_marks xs + held_marks ys
marks_joined [] ys = omega arith
marks_joined (true ∷ xs) ys = omega (arith, marks_joined xs ys)
marks_joined (false ∷ xs) ys = marks_joined xs ys

marks_by : (kind : Kind) (v : Verdict) (w : Waiting) → held_marks (report_by kind v) ≡ length (if is_held v then (w ∷ []) else [])
marks_by Opener (verdict.Held why) w = refl
marks_by Carry (verdict.Held why) w = refl
marks_by Ending (verdict.Held why) w = refl
marks_by kind v w = refl

marks_line : (kind : Kind) (number entered out pipe : ℕ) (key : KeyView) (v : Verdict)
    → length (held_in_line (line.Packet number entered out pipe key kind v)) ≡ held_marks (report_by kind v)
marks_line Opener number entered out pipe key (verdict.Held why) = refl
marks_line Carry number entered out pipe key (verdict.Held why) = refl
marks_line Ending number entered out pipe key (verdict.Held why) = refl
marks_line kind number entered out pipe key v = refl

marks_lines : (lines : List Line) → held_marks (reports_in lines) ≡ length (held_in_lines lines)
marks_lines [] = refl
marks_lines (line.Packet number entered out pipe key kind v ∷ rest) =
    omega (arith, marks_joined (report_by kind v) (reports_in rest), marks_line kind number entered out pipe key v, marks_lines rest, length-append {A = Waiting})
marks_lines (l ∷ rest) = marks_lines rest

marks_out : (kind : Kind) (v : Verdict) (f : Flight) → f.packet.kind ≡ kind
    → held_marks (report_by f.packet.kind v) ≡ length (held_at (stage.Fly f (leg.Judged v last.Out)))
marks_out kind v f e = ap (λ z. held_marks (report_by z v)) e ∙ at kind v
  where
    at : (kind : Kind) (v : Verdict) → held_marks (report_by kind v) ≡ length (held_at (stage.Fly f (leg.Judged v last.Out)))
    at Opener (verdict.Held why) = refl
    at Carry (verdict.Held why) = refl
    at Ending (verdict.Held why) = refl
    at kind v = refl

marks_stage : (a : Stage) → held_marks (report_at a) ≡ length (held_at a)
marks_stage (stage.Fly f (leg.Judged v last.Out)) = marks_out f.packet.kind v f refl
marks_stage a = refl

-- as many reports are of held openers as there are held openers
pub marks_of : (v : PipeView) → held_marks (reports_of v) ≡ length (held_of v)
marks_of v =
    omega (arith, marks_joined (reports_in v.lines) (report_at v.stage), marks_lines v.lines, marks_stage v.stage, length-append {A = Waiting})

-- more reports are as many after so many held ones, or more
pub after_more : (n : ℕ) (xs ys : List Bool) → after_held n xs ≤ after_held n (xs ++ ys)
after_more zero xs ys = omega (arith, length-append {A = Bool})
after_more (suc n) [] ys = omega arith
after_more (suc n) (true ∷ xs) ys = after_more n xs ys
after_more (suc n) (false ∷ xs) ys = after_more (suc n) xs ys

-- and one report more is one more, where there were so many held ones
pub after_one : (n : ℕ) (xs : List Bool) (b : Bool) → n ≤ held_marks xs → after_held n xs + 1 ≤ after_held n (xs ++ b ∷ [])
after_one zero xs b h = omega (arith, length-append {A = Bool})
after_one (suc n) [] b h = absurd (omega arith)
after_one (suc n) (true ∷ xs) b h = after_one n xs b (omega arith)
after_one (suc n) (false ∷ xs) b h = after_one (suc n) xs b h
