use Rattle.std.proofs.Common.{◌-◌}
use Rattle.sr_acts.specs.Pending.{IsAsked, awaits}
use Rattle.sr_acts.proofs.planned_book.PlannedBook.first_awaited.Given as goal

-- those before the number were asked in vain
abbrev pub invariant-loop-entry : goal.invariant-loop-entry
invariant-loop-entry l = IsAsked (awaits l.awaiting) l.number l.self.book

abbrev pub decreases-loop-entry : goal.decreases-loop-entry
decreases-loop-entry l = l.self.book.taken - l.number
