use Rattle.std.proofs.Common.{◌≡◌, ℕ, ap, subst, Some, sym, ◌∙◌, arith}
use Rattle.sr_marks.specs.Counts.{weight}
use Rattle.sr_marks.specs.Marks.{rank_of, nth_set}
use Rattle.sr_marks.specs.Words.{bits_of}
use Rattle.sr_marks.proofs.Bits.{length-bits_of}
use Rattle.sr_marks.proofs.SetMarks.{rank_zero, rank_more, rank_all, nth_set-rank}
use Rattle.sr_marks.proofs.word.nth_bit.Goals as goal
use Rattle.sr_marks.proofs.word.nth_bit.Goals.{then-has_bit+else-left-eq0, else-has_bit}

pub loop-bit-init : goal.loop-bit-init
loop-bit-init c = omega (arith, rank_zero (bits_of 64 c.args.word))

pub returns-then-left-eq0-clause-value : goal.returns-then-left-eq0-clause-value
returns-then-left-eq0-clause-value c =
    let bits = bits_of 64 c.args.word in
    let rank : rank_of c.loop-bit.bit bits ≡ c.args.n = omega (arith, c.loop-bit.invariant) in
    subst (λ (k : ℕ). nth_set k bits ≡ Some c.loop-bit.bit) rank (nth_set-rank bits c.loop-bit.bit (sym c.has_bit.ensures ∙ c.if-has_bit.true))

pub loop-bit-preserved : goal.loop-bit-preserved
loop-bit-preserved c =
    let bits = bits_of 64 c.args.word in
    let more = rank_more bits c.loop-bit.bit in
    let so_far = c.loop-bit.invariant in
    elim c.if-has_bit.branch [
      | then-has_bit+else-left-eq0 w ↦ let mark = ap weight (sym c.has_bit.ensures ∙ w.if-has_bit.true) in let left = w.left-is in let some = w.if-left-eq0.false in omega arith
      | else-has_bit w ↦ let mark = ap weight (sym c.has_bit.ensures ∙ w.if-has_bit.false) in let left = w.left-is in omega arith
    ]

pub unreachable-requires : goal.unreachable-requires
unreachable-requires c =
    let bits = bits_of 64 c.args.word in
    let all = rank_all bits c.loop-bit.bit (omega (arith, length-bits_of 64 c.args.word, c.loop-bit-test.false)) in
    let so_far = c.loop-bit.invariant in
    omega (arith, c.requires)
