use Rattle.std.proofs.Common.{length}
use Rattle.sr_marks.proofs.Tiering.{Growing}
use Rattle.sr_marks.proofs.tiers.Tiers.over.Given as goal

abbrev pub invariant-loop-alloc : goal.invariant-loop-alloc
invariant-loop-alloc l = Growing l.tiers.items l.tier l.fn.lowest

abbrev pub decreases-loop-alloc : goal.decreases-loop-alloc
decreases-loop-alloc l = length l.tier
