use Rattle.std.proofs.Common.{◌≡◌, reverse, take}
use Rattle.sr_law.specs.Retire.{last_retired}
use Rattle.sr_law.proofs.retire.last_retired.Given as goal

abbrev pub invariant-loop-line : goal.invariant-loop-line
invariant-loop-line l = l.last ≡ last_retired (reverse (take l.line-index l.before)) l.c
