use Rattle.sr_machine.specs.Turning.{most_steps}
use Rattle.sr_picks.proofs.Turns.{is_turn}
use Rattle.sr_picks.proofs.laws.turns_are_turns.Goals as goal

pub returns : goal.returns
returns c = λ s t. is_turn (most_steps s.config.layout) s t
