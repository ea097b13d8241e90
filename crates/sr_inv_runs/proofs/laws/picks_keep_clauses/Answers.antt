use Rattle.sr_inv_runs.proofs.Picked.{acts_keep, picks_keep}
use Rattle.sr_inv_runs.proofs.laws.picks_keep_clauses.Goals as goal

pub returns-clause-picks : goal.returns-clause-picks
returns-clause-picks c = picks_keep

pub returns-clause-acts : goal.returns-clause-acts
returns-clause-acts c = acts_keep
