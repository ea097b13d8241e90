use Rattle.sr_inv_ends.proofs.Ending.{turns_end, turns_settle}
use Rattle.sr_inv_ends.proofs.laws.turns_settle.Goals as goal

pub returns-clause-state : goal.returns-clause-state
returns-clause-state c = turns_end

pub returns-clause-lines : goal.returns-clause-lines
returns-clause-lines c = turns_settle
