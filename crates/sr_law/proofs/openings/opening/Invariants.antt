use Rattle.std.proofs.Common.{◌≡◌, reverse, take}
use Rattle.sr_law.specs.Opening.{opening}
use Rattle.sr_law.proofs.openings.opening.Given as goal

abbrev pub invariant-loop-line : goal.invariant-loop-line
invariant-loop-line l = l.found ≡ opening (reverse (take l.line-index l.before)) l.c
