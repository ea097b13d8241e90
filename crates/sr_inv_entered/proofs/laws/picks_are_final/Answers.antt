use Rattle.sr_inv_entered.proofs.Ending.{picks_final}
use Rattle.sr_inv_entered.proofs.laws.picks_are_final.Goals as goal

pub returns : goal.returns
returns c = picks_final
