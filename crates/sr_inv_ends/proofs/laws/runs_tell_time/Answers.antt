use Rattle.sr_inv_ends.proofs.Clocks.{acts_time, picks_time}
use Rattle.sr_inv_ends.proofs.laws.runs_tell_time.Goals as goal

pub returns-clause-acts : goal.returns-clause-acts
returns-clause-acts c = acts_time

pub returns-clause-picks : goal.returns-clause-picks
returns-clause-picks c = picks_time
