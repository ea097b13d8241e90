use Rattle.std.proofs.Common.{◌≡◌, reverse, take}
use Rattle.sr_law.specs.Given.{last_given}
use Rattle.sr_settled.proofs.in_use.last_given.Given as goal

abbrev pub invariant-loop-line : goal.invariant-loop-line
invariant-loop-line l = l.last ≡ last_given (reverse (take l.line-index l.lines)) l.vip
