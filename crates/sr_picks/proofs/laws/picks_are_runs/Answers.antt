use Rattle.sr_picks.proofs.Runs.{plays_reached, run_reached}
use Rattle.sr_picks.proofs.laws.picks_are_runs.Goals as goal

pub returns-clause-round : goal.returns-clause-round
returns-clause-round c = plays_reached

pub returns-clause-whole : goal.returns-clause-whole
returns-clause-whole c = run_reached
