-- A packet whose steps were made, to the last one, is handled.
use Rattle.std.proofs.Common.{◌≡◌, ◌∙◌, ℕ, zero, suc, ◌≤◌, ◌++◌, true, List, [], ◌∷◌, length, sym, ap, arith}
use Rattle.sr_base.specs.Layout.{LayoutView}
use Rattle.sr_base.specs.declared.packet.Packet.{Packet}
use Rattle.sr_law.specs.declared.line.Line.{Line}
use Rattle.sr_law.specs.declared.line.Line.TheVariants as line
use Rattle.sr_machine.specs.Bounds.{PacketsEnd, stage_after_all}
use Rattle.sr_machine.specs.Pipe.{is_idle, pipe_after}
use Rattle.sr_machine.specs.declared.name.Name.{Name}
use Rattle.sr_machine.specs.declared.pipe_view.PipeView.{PipeView}
use Rattle.sr_machine.specs.declared.stage.Stage.TheVariants.{Idle}
use Rattle.sr_pipe.proofs.Causing.{HasLeft, has_left}
use Rattle.sr_pipe.specs.Handling.{HandledOn, with_packet}
use Rattle.sr_pipe.specs.Known.{FitsThen, Goes, Known}
use Rattle.sr_pipe.specs.Steps.{AreSteps}

last_same : (xs : List Line) (a b : Line) → xs ++ a ∷ [] ≡ xs ++ b ∷ [] → a ≡ b
last_same [] a b e = cc
last_same (x ∷ xs) a b e = last_same xs a b cc

-- where any so many answers lead to the end, no more steps are made
few_steps : (l : LayoutView) (n : ℕ) (v : PipeView) (xs : List ℕ)
    → ((ys : List ℕ) → n ≤ length ys → stage_after_all l ys v.stage ≡ Idle) → AreSteps l v xs → length xs ≤ n
few_steps l n v [] ends a = omega arith
few_steps l zero v (x ∷ xs) ends a =
    let idle : is_idle v.stage ≡ true = ap is_idle (ends [] (omega arith)) in absurd (cc (idle, a.0))
few_steps l (suc n) v (x ∷ xs) ends a =
    let rest : length xs ≤ n = few_steps l n (pipe_after l v v.stage x) xs (λ ys h. ends (x ∷ ys) (omega (arith, h))) a.1 in
    omega (arith, rest)

pub handled : PacketsEnd → (l : LayoutView) (packet : Packet) (old mid new : Known) (v w : PipeView) (written : Line)
    → FitsThen l old v mid (with_packet packet v) → ((words : Name → ℕ) → old.shows words → mid.shows words)
    → Goes l mid (with_packet packet v) new w → is_idle w.stage ≡ true → w.lines ≡ v.lines ++ written ∷ []
    → HandledOn l packet old v new w written
handled ends l packet old mid new v w written fits shows g idle lines = record {
  answers = g.answers;
  handled = record {
    each = g.leads.each;
    view = g.leads.view;
    idle = idle;
    few = few_steps l 25 (with_packet packet v) g.answers (ends l packet) g.leads.each;
    line = lines;
    verdict = (left.verdict, (left.entered, left.out, same), left.cause);
  };
  fits = λ k e f. g.leads.fits k e (fits k e f);
  words = λ words s. g.leads.words words (shows words s);
}
  where
    left : HasLeft l packet v g.answers
    left = has_left l packet v g.answers g.leads.each (ap (λ (u : PipeView). is_idle u.stage) g.leads.view ∙ idle)

    same : written ≡ line.Packet packet.number left.entered left.out v.number packet.key packet.kind left.verdict
    same = last_same v.lines written (line.Packet packet.number left.entered left.out v.number packet.key packet.kind left.verdict)
        (sym lines ∙ ap (λ (u : PipeView). u.lines) (sym g.leads.view) ∙ left.lines)
