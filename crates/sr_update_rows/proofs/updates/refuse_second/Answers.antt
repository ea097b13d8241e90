use Rattle.std.proofs.Common.{refl}
use Rattle.sr_update_rows.specs.Scene.{give_at}
use Rattle.sr_update_rows.proofs.updates.refuse_second.Goals as goal

pub refuse-requires-clause-full : goal.refuse-requires-clause-full
refuse-requires-clause-full c = (give_at 1 2 3, rw c.requires.updates refl, rw c.requires.numbers refl)
