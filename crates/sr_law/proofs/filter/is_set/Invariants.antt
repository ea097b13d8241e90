use Rattle.std.proofs.Common.{◌≡◌, reverse, take}
use Rattle.sr_law.specs.Held.{is_set}
use Rattle.sr_law.proofs.filter.is_set.Given as goal

abbrev pub invariant-loop-line : goal.invariant-loop-line
invariant-loop-line l = l.set ≡ is_set l.bits l.vip l.giving l.place (reverse (take l.line-index l.before))
