use Rattle.std.proofs.Common.{◌≡◌, ℕ, Some, ap, sym, subst, arith}
use Rattle.sr_marks.specs.Counts.{weight}
use Rattle.sr_marks.specs.Marks.{rank_of, nth_set}
use Rattle.sr_marks.proofs.SetMarks.{nth_set-none, nth_set-rank, rank_zero, rank_more, rank_all}
use Rattle.sr_marks.proofs.plain.nth_plain.Goals as goal
use Rattle.sr_marks.proofs.plain.nth_plain.Goals.{then-marks-at+else-left-eq0, else-marks-at}

pub loop-at-init : goal.loop-at-init
loop-at-init c = omega (arith, rank_zero c.args.marks.now)

pub returns-then-left-eq0 : goal.returns-then-left-eq0
returns-then-left-eq0 c =
    let rank : rank_of c.loop-at.at c.args.marks.now ≡ c.args.n = omega (arith, c.loop-at.invariant) in
    sym (subst (λ (k : ℕ). nth_set k c.args.marks.now ≡ Some c.loop-at.at) rank (nth_set-rank c.args.marks.now c.loop-at.at c.if-marks-at.true))

pub loop-at-preserved : goal.loop-at-preserved
loop-at-preserved c =
    let more = rank_more c.args.marks.now c.loop-at.at in
    let so_far = c.loop-at.invariant in
    elim c.if-marks-at.branch [
      | then-marks-at+else-left-eq0 w ↦ let mark = ap weight w.if-marks-at.true in let left = w.left-is in let some = w.if-left-eq0.false in omega arith
      | else-marks-at w ↦ let mark = ap weight w.if-marks-at.false in let left = w.left-is in omega arith
    ]

pub returns : goal.returns
returns c =
    let all = rank_all c.args.marks.now c.loop-at.at (omega (arith, c.loop-at-test.false)) in
    sym (nth_set-none c.args.n c.args.marks.now (omega (arith, c.loop-at.invariant)))
