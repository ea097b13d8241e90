use Rattle.std.proofs.Common.{◌≡◌, reverse, take}
use Rattle.sr_law.specs.Taken.{taken}
use Rattle.sr_law.proofs.takings.taken.Given as goal

abbrev pub invariant-loop-line : goal.invariant-loop-line
invariant-loop-line l = l.holder ≡ taken (reverse (take l.line-index l.before)) l.place
