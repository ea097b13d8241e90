use Rattle.sr_inv_entered.proofs.Ending.{are_reached, enter_all}
use Rattle.sr_inv_entered.proofs.laws.picks_enter_all.Goals as goal

pub returns-clause-reached : goal.returns-clause-reached
returns-clause-reached c = are_reached

pub returns-clause-all : goal.returns-clause-all
returns-clause-all c = enter_all
