use Rattle.sr_picks.proofs.Once.{runs_once}
use Rattle.sr_picks.proofs.laws.runs_end_once.Goals as goal

pub returns : goal.returns
returns c = runs_once
