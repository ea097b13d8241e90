use Rattle.sr_shadow.proofs.Later.{full_key_last, no_room_none}
use Rattle.sr_shadow.proofs.laws.later_ways.Goals as goal

pub returns : goal.returns
returns c = record { full_key = full_key_last; no_room = no_room_none }
