use Rattle.std.proofs.Common.{◌≡◌, reverse, take}
use Rattle.sr_law.specs.Newer.{last_switched}
use Rattle.sr_law.proofs.newer.last_switched.Given as goal

abbrev pub invariant-loop-line : goal.invariant-loop-line
invariant-loop-line l = l.last ≡ last_switched (reverse (take l.line-index l.before)) l.vip l.tick
