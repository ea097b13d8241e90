use Rattle.std.proofs.Common.{◌≡◌, ◌+◌}
use Rattle.sr_marks.specs.Counts.{total_before}
use Rattle.sr_marks.proofs.level.Level.sum_between.Given as goal

abbrev pub invariant-loop-at : goal.invariant-loop-at
invariant-loop-at l = total_before l.from l.self + l.sum ≡ total_before l.at l.self
