use Rattle.std.proofs.Common.{Some, refl}
use Rattle.sr_audit.proofs.Holding.{slot_set}
use Rattle.sr_audit.proofs.places.Places.take.Goals as goal

pub returns-in_ok-insert-in-Slot : goal.returns-in_ok-insert-in-Slot
returns-in_ok-insert-in-Slot c = rw c.in-Slot.is
    (slot_set c.args.self.now (record { slots = c.insert.new.self; rows = c.args.self.now.rows }) c.in-Slot.way c.in-Slot.bucket c.in-Slot.cell (Some c.args.taking) refl (λ q. c.in_ok-insert-in-Slot.ensures.updates.0 q))
