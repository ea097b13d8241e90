use Rattle.sr_marks.proofs.Walks.{Summing}
use Rattle.sr_marks.proofs.counts.Counts.before.Given as goal

abbrev pub invariant-loop-level : goal.invariant-loop-level
invariant-loop-level l = Summing l.self l.fn.at l.level-index l.at l.sum
