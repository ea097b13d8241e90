use Rattle.sr_shadow.proofs.PlannedSlot.{planned_slot_clear}
use Rattle.sr_shadow.proofs.laws.slots_stay_apart.Goals as goal

pub returns : goal.returns
returns c = planned_slot_clear
