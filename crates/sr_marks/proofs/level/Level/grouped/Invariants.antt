use Rattle.std.proofs.Common.{◌≡◌, take}
use Rattle.sr_marks.specs.Counts.{groups}
use Rattle.sr_marks.proofs.level.Level.grouped.Given as goal

abbrev pub invariant-loop-group : goal.invariant-loop-group
invariant-loop-group l = l.counts.items ≡ take l.group (groups l.self)
