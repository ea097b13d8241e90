use Rattle.sr_shadow.proofs.Planned.{move_given, mover_settles, pending_settles, row_given, slot_given}
use Rattle.sr_shadow.proofs.laws.plans_give.Goals as goal

pub returns : goal.returns
returns c = record { slots = slot_given; rows = row_given; moves = move_given; settles = mover_settles; pending = pending_settles }
