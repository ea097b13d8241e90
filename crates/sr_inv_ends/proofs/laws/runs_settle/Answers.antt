use Rattle.sr_inv_ends.proofs.Ending.{acts_settle, picks_settle}
use Rattle.sr_inv_ends.proofs.laws.runs_settle.Goals as goal

pub returns-clause-acts : goal.returns-clause-acts
returns-clause-acts c = acts_settle

pub returns-clause-picks : goal.returns-clause-picks
returns-clause-picks c = picks_settle
