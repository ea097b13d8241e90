use Rattle.std.proofs.Common.{◌≡◌, ◌+◌, get_or, ap, sym, ◌∙◌, refl, length, arith}
use Rattle.std.specs.List.{range_with_len}
use Rattle.std.proofs.lemmas.List.{ext_get_or}
use Rattle.std.proofs.lemmas.List.FromFn.{get_or-range_with_len, length-range_with_len}
use Rattle.sr_run.proofs.numbering.counts_up.Goals as goal

pub returns : goal.returns
returns c =
    let numbers = c.args.numbers.now in
    let ended = c.loop-i-test.false in
    let same : numbers ≡ range_with_len 1 (length numbers) =
    ext_get_or 0 numbers (range_with_len 1 (length numbers)) (sym (length-range_with_len 1 (length numbers)))
    (λ i below. c.loop-i.invariant i (omega arith) ∙ sym (get_or-range_with_len 1 (length numbers) i 0 below)) in
    (λ t. same, λ e. refl)

pub returns-then-numbers-i : goal.returns-then-numbers-i
returns-then-numbers-i c = (
  λ t. absurd cc,
  λ e.
      let i = c.loop-i.i in
      let at : get_or c.args.numbers.now i 0 ≡ 1 + i = ap (λ xs. get_or xs i 0) e ∙ get_or-range_with_len 1 (length c.args.numbers.now) i 0 c.loop-i-test.true in
      absurd (c.if-numbers-i.true (omega arith)),
)
