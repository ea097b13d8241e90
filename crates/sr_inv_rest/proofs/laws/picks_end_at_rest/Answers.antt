use Rattle.sr_inv_rest.proofs.Resting.{acts_rest, picks_rest}
use Rattle.sr_inv_rest.proofs.laws.picks_end_at_rest.Goals as goal

pub returns-clause-picks : goal.returns-clause-picks
returns-clause-picks c = picks_rest

pub returns-clause-acts : goal.returns-clause-acts
returns-clause-acts c = acts_rest
