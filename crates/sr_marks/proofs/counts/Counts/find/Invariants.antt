use Rattle.sr_marks.proofs.Walks.{Finding}
use Rattle.sr_marks.proofs.counts.Counts.find.Given as goal

abbrev pub invariant-loop-i : goal.invariant-loop-i
invariant-loop-i l = Finding l.self l.n l.i l.at l.rest
