use Rattle.std.proofs.Common.{◌≡◌, length, take, inl, inr, ap, sym, ◌∙◌, arith}
use Rattle.std.proofs.lemmas.Bool.{cases_lt}
use Rattle.std.proofs.lemmas.List.{length-take}
use Rattle.sr_marks.specs.Counts.{weight}
use Rattle.sr_marks.specs.Marks.{rank_of}
use Rattle.sr_marks.proofs.SetMarks.{count_set-le, rank_zero, rank_more, rank_all}
use Rattle.sr_marks.proofs.plain.before_plain.Goals as goal
use Rattle.sr_marks.proofs.plain.before_plain.Goals.{then-marks-k, else-marks-k}

pub loop-k-init : goal.loop-k-init
loop-k-init c = sym (rank_zero c.args.marks.now)

pub overflow_add-count : goal.overflow_add-count
overflow_add-count c =
    let so_far = c.loop-k.invariant in
    let few = count_set-le (take c.loop-k.k c.args.marks.now) in
    let short = length-take c.loop-k.k c.args.marks.now in
    omega (arith, c.loop-k-test.true, c.min-k-end.type_inv)

pub loop-k-preserved : goal.loop-k-preserved
loop-k-preserved c =
    let more = rank_more c.args.marks.now c.loop-k.k in
    let so_far = c.loop-k.invariant in
    elim c.if-marks-k.branch [
      | then-marks-k w ↦ let mark = ap weight w.if-marks-k.true in let count = w.count-is in omega arith
      | else-marks-k w ↦ let mark = ap weight w.if-marks-k.false in let count = w.count-is in omega arith
    ]

pub returns : goal.returns
returns c = elim (cases_lt c.args.at (length c.args.marks.now)) [
  | inl inside ↦
      let here : c.loop-k.k ≡ c.args.at = omega (arith, c.min-k-end.ensures, c.loop-k-test.false, c.loop-k.auto.k-end) in
      c.loop-k.invariant ∙ ap (λ k. rank_of k c.args.marks.now) here
  | inr past ↦ c.loop-k.invariant ∙ (rank_all c.args.marks.now c.loop-k.k (omega (arith, c.min-k-end.ensures, c.loop-k-test.false)) ∙ sym (rank_all c.args.marks.now c.args.at past))
]
