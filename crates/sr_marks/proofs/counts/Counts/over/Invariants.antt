use Rattle.std.proofs.Common.{length}
use Rattle.sr_marks.proofs.Walks.{Growing}
use Rattle.sr_marks.proofs.counts.Counts.over.Given as goal

abbrev pub invariant-loop-alloc : goal.invariant-loop-alloc
invariant-loop-alloc l = Growing l.levels.items l.level l.fn.lowest

abbrev pub decreases-loop-alloc : goal.decreases-loop-alloc
decreases-loop-alloc l = length l.level
