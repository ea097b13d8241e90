use Rattle.std.proofs.Common.{◌≤◌, ◌-◌}
use Rattle.sr_update.proofs.Rows.{NoneDrained}
use Rattle.sr_update.proofs.row.Row.drained.Given as goal

abbrev pub invariant-loop-n : goal.invariant-loop-n
invariant-loop-n l = record { most : l.from ≤ 64; none : NoneDrained l.vip l.book.book.entries l.self l.from }

abbrev pub decreases-loop-n : goal.decreases-loop-n
decreases-loop-n l = 64 - l.from
