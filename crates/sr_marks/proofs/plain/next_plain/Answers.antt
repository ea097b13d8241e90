use Rattle.std.proofs.Common.{◌≡◌, false, get_or, inl, inr, sym, ◌∙◌, ap, arith}
use Rattle.std.proofs.lemmas.Bool.{cases_lt}
use Rattle.std.proofs.lemmas.List.{get_or_past}
use Rattle.sr_marks.proofs.SetMarks.{next_set-found, next_set-missing}
use Rattle.sr_marks.proofs.plain.next_plain.Goals as goal

pub loop-at-init : goal.loop-at-init
loop-at-init c = λ k above below. absurd (omega arith)

pub returns-then-marks-at : goal.returns-then-marks-at
returns-then-marks-at c = sym (next_set-found c.args.from c.args.marks.now c.loop-at.at c.loop-at.auto.at c.if-marks-at.true c.loop-at.invariant)

pub loop-at-preserved : goal.loop-at-preserved
loop-at-preserved c = λ k above below. elim (cases_lt k c.loop-at.at) [
  | inl before ↦ c.loop-at.invariant k above before
  | inr after ↦ let here : k ≡ c.loop-at.at = omega arith in ap (λ j. get_or c.args.marks.now j false) here ∙ c.if-marks-at.false
]

pub returns : goal.returns
returns c = sym (next_set-missing c.args.from c.args.marks.now (λ k above. elim (cases_lt k c.loop-at.at) [
  | inl before ↦ c.loop-at.invariant k above before
  | inr after ↦ get_or_past c.args.marks.now k false (omega (arith, c.loop-at-test.false))
]))
