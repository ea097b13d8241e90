use Rattle.std.proofs.Common.{◌≡◌, drop}
use Rattle.sr_decimal.specs.Front.{value_from}
use Rattle.sr_run.proofs.numbers.value_of.Given as goal

-- the number so far goes on to the whole one
abbrev pub invariant-loop-digit : goal.invariant-loop-digit
invariant-loop-digit l = value_from l.value (drop l.digit-index l.digits) ≡ value_from 0 l.digits
