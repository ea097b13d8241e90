use Rattle.std.proofs.Common.{◌≡◌, reverse, take, ◌≤◌}
use Rattle.sr_law.specs.Full.{held_count}
use Rattle.sr_law.proofs.full.held_count.Given as goal

abbrev pub invariant-loop-line : goal.invariant-loop-line
invariant-loop-line l = (l.count ≡ held_count l.pipe (reverse (take l.line-index l.before))) × (l.count ≤ l.line-index)
