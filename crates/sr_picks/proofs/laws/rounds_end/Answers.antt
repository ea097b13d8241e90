use Rattle.sr_picks.proofs.Lowers.{picks_lower}
use Rattle.sr_picks.proofs.Picked.{none_picked}
use Rattle.sr_picks.proofs.laws.rounds_end.Goals as goal

pub returns-clause-lower : goal.returns-clause-lower
returns-clause-lower c = picks_lower

pub returns-clause-over : goal.returns-clause-over
returns-clause-over c = none_picked
