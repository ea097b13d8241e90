use Rattle.std.proofs.Common.{◌≡◌, ◌≤◌, drop}
use Rattle.sr_decimal.specs.Front.{digits_on}
use Rattle.sr_decimal.proofs.front.digits_on.Given as goal

-- the digits from here go on to what all of them give
abbrev pub invariant-loop-i : goal.invariant-loop-i
invariant-loop-i l = (l.number ≤ l.most) × (digits_on l.most l.number (drop l.i l.bytes) ≡ digits_on l.most l.start l.bytes)
