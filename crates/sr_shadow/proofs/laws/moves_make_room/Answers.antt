use Rattle.sr_shadow.proofs.MovedEntry.{goal_free, mover_at, room_made}
use Rattle.sr_shadow.proofs.laws.moves_make_room.Goals as goal

pub returns : goal.returns
returns c = record { mover = mover_at; free = goal_free; slot = room_made }
