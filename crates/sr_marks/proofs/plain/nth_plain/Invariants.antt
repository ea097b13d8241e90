use Rattle.std.proofs.Common.{◌≡◌, ◌+◌}
use Rattle.sr_marks.specs.Marks.{rank_of}
use Rattle.sr_marks.proofs.plain.nth_plain.Given as goal

abbrev pub invariant-loop-at : goal.invariant-loop-at
invariant-loop-at l = l.left + rank_of l.at l.marks ≡ l.n
