use Rattle.std.proofs.Common.{◌+◌, length, get_or, set}
use Rattle.sr_marks.specs.Counts.{lowest}
use Rattle.sr_marks.proofs.Walks.{Changing}
use Rattle.sr_marks.proofs.counts.Counts.raise.Given as goal

abbrev pub invariant-loop-i : goal.invariant-loop-i
invariant-loop-i l =
    let first = l.initial.self-inside.levels.items in
    let xs = lowest first in
    Changing 0 1 xs (set xs l.fn.at (get_or xs l.fn.at 0 + 1)) (length first) l.self-inside.levels.items l.i l.at
