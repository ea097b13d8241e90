use Rattle.std.proofs.Common.{◌≡◌, reverse, take}
use Rattle.sr_law.specs.Held.{last_hold}
use Rattle.sr_law.proofs.holding.last_hold.Given as goal

abbrev pub invariant-loop-line : goal.invariant-loop-line
invariant-loop-line l = l.last ≡ last_hold (reverse (take l.line-index l.before)) l.vip
