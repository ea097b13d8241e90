use Rattle.std.proofs.Common.{◌+◌, ◌-◌, ◌*◌, get_or, drop, ap, sym, ◌∙◌, arith}
use Rattle.std.proofs.lemmas.List.{at_drop_more}
use Rattle.sr_decimal.specs.Front.{value_from}
use Rattle.sr_run.specs.Numbers.{fitting}
use Rattle.sr_run.proofs.Digits.{too_large}
use Rattle.sr_run.proofs.numbers.value_of.Goals as goal

pub returns-then-next : goal.returns-then-next
returns-then-next c =
    let digits = c.args.digits.now in
    let value = c.loop-digit.value in
    let i = c.loop-digit.digit-index in
    sym (ap fitting (sym c.loop-digit.invariant ∙ at_drop_more (value_from value) digits i 0 c.loop-digit-test.true)
    ∙ too_large (10 * value + (get_or digits i 0 - 48)) (drop (i + 1) digits) (omega (arith, c.saturating_sub.ensures)))
