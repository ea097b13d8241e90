use Rattle.sr_picks.proofs.Acts.{run_acts}
use Rattle.sr_picks.proofs.Runs.{acts_run_reached}
use Rattle.sr_picks.proofs.laws.acts_are_runs.Goals as goal

pub returns-clause-reached : goal.returns-clause-reached
returns-clause-reached c = acts_run_reached

pub returns-clause-picked : goal.returns-clause-picked
returns-clause-picked c = run_acts
