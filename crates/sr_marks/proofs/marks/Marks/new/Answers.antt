use Rattle.sr_marks.proofs.Keeping.{kept_none}
use Rattle.sr_marks.proofs.marks.Marks.new.Goals as goal

pub invariant_of-result : goal.invariant_of-result
invariant_of-result c = kept_none c.new.result c.new-2.result c.new.ensures c.new-2.ensures
