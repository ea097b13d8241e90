use Rattle.sr_rounds.proofs.Windows.{the_rounds}
use Rattle.sr_rounds.proofs.laws.rounds_are_windows.Goals as goal

pub returns : goal.returns
returns c = the_rounds
