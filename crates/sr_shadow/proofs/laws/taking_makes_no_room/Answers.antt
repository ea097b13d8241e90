use Rattle.sr_shadow.proofs.NewEntry.{no_room_more}
use Rattle.sr_shadow.proofs.laws.taking_makes_no_room.Goals as goal

pub returns : goal.returns
returns c = no_room_more
