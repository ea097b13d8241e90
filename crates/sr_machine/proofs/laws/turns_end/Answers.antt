use Rattle.sr_machine.proofs.TurnSteps.{turns_are_short, turns_end}
use Rattle.sr_machine.proofs.laws.turns_end.Goals as goal

pub returns-clause-short : goal.returns-clause-short
returns-clause-short c = turns_are_short

pub returns-clause-end : goal.returns-clause-end
returns-clause-end c = turns_end
