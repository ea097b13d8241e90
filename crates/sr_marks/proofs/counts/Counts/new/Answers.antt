use Rattle.sr_marks.proofs.Levels.{no_levels}
use Rattle.sr_marks.proofs.counts.Counts.new.Goals as goal

pub invariant_of-result : goal.invariant_of-result
invariant_of-result c = rw c.new.ensures.items no_levels
