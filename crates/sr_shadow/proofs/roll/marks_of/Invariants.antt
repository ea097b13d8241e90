use Rattle.std.proofs.Common.{◌≡◌}
use Rattle.sr_shadow.specs.Roll.{kept, Marked}
use Rattle.sr_shadow.proofs.roll.marks_of.Given as goal

abbrev pub invariant-loop-at : goal.invariant-loop-at
invariant-loop-at l = record { marked : Marked l.marks (kept l.at l.slots.entries); lives : l.marks.lives ≡ l.lives }
