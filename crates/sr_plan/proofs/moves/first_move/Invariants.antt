use Rattle.std.proofs.Common.{◌≡◌, drop}
use Rattle.sr_shadow.specs.Plan.{first_move, move_plan}
use Rattle.sr_plan.proofs.moves.first_move.Given as goal

-- the first is from one of the slots that are left
abbrev pub invariant-loop-slot : goal.invariant-loop-slot
invariant-loop-slot l = first_move l.layout.shape l.indexed.book.entries l.key (drop l.slot-index l.slot-items) ≡ move_plan l.layout.shape l.indexed.book.entries l.key
