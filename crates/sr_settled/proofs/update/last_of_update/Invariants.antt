use Rattle.std.proofs.Common.{◌≡◌, reverse, take}
use Rattle.sr_law.specs.Groups.{last_of_update}
use Rattle.sr_settled.proofs.update.last_of_update.Given as goal

abbrev pub invariant-loop-line : goal.invariant-loop-line
invariant-loop-line l = l.last ≡ last_of_update (reverse (take l.line-index l.lines))
