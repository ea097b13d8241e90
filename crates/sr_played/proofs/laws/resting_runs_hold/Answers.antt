use Rattle.sr_played.proofs.Rested.{rested}
use Rattle.sr_played.proofs.laws.resting_runs_hold.Goals as goal

pub returns : goal.returns
returns c = rested
