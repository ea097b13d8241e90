use Rattle.sr_shadow.proofs.Settling.{no_room_settled}
use Rattle.sr_shadow.proofs.laws.slots_make_no_room.Goals as goal

pub returns : goal.returns
returns c = λ shape es key other place e distinct found at also slot apart h. no_room_settled shape es other key place e distinct found at also slot apart h
