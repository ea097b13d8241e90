use Rattle.std.proofs.Common.{arith}
use Rattle.sr_shadow.proofs.Slots.{marked_set}
use Rattle.sr_shadow.proofs.slot_marks.SlotMarks.set.Goals as goal

pub returns-clause-marked : goal.returns-clause-marked
returns-clause-marked c = λ before after s number is h.
    let p = marked_set _ _ _ _ _ before after s (number, c.args.slot.now) c.args.at is h in
    record { filled = grind (arith, p.filled, c.set.ensures, c.is_some.ensures); pending = grind (arith, p.pending, c.set-2.ensures, c.is_pending.ensures); placed = grind (arith, p.placed, c.set-3.ensures, c.is_placed.ensures); retirable = grind (arith, p.retirable, c.set-4.ensures, c.may_retire.ensures) }
