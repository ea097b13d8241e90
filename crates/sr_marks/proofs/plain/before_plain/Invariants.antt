use Rattle.std.proofs.Common.{◌≡◌}
use Rattle.sr_marks.specs.Marks.{rank_of}
use Rattle.sr_marks.proofs.plain.before_plain.Given as goal

abbrev pub invariant-loop-k : goal.invariant-loop-k
invariant-loop-k l = l.count ≡ rank_of l.k l.marks
