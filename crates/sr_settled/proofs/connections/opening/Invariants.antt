use Rattle.std.proofs.Common.{◌≡◌, reverse, take}
use Rattle.sr_law.specs.Opening.{opening}
use Rattle.sr_settled.proofs.connections.opening.Given as goal

abbrev pub invariant-loop-line : goal.invariant-loop-line
invariant-loop-line l = l.found ≡ opening (reverse (take l.line-index l.lines)) l.c
