use Rattle.sr_played.proofs.Playing.{played}
use Rattle.sr_played.proofs.laws.played_lines_hold.Goals as goal

pub returns : goal.returns
returns c = played
