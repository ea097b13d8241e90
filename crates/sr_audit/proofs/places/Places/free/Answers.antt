use Rattle.std.proofs.Common.{None, refl}
use Rattle.sr_audit.proofs.Holding.{slot_set}
use Rattle.sr_audit.proofs.places.Places.free.Goals as goal

pub returns-in-Slot : goal.returns-in-Slot
returns-in-Slot c = rw c.in-Slot.is
    (slot_set c.args.self.now (record { slots = c.remove.new.self; rows = c.args.self.now.rows }) c.in-Slot.way c.in-Slot.bucket c.in-Slot.cell None refl (λ q. c.remove.ensures.updates.0 q))
