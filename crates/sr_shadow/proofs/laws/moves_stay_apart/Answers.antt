use Rattle.sr_shadow.proofs.MovedEntry.{moved_apart}
use Rattle.sr_shadow.proofs.laws.moves_stay_apart.Goals as goal

pub returns : goal.returns
returns c = moved_apart
