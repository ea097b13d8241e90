use Rattle.std.proofs.Common.{◌≡◌, ◌++◌, [], reverse, take, drop}
use Rattle.sr_law.specs.Settled.{due_gives}
use Rattle.sr_settled.proofs.due.due_gives.Given as goal

abbrev pub invariant-loop-position : goal.invariant-loop-position
invariant-loop-position l =
    due_gives l.clock [] 0 l.changes ≡ l.dues.items ++ due_gives l.clock (reverse (take l.position l.changes)) l.position (drop l.position l.changes)
