use Rattle.sr_words.proofs.Joining.{boards_know, boards_know_controller}
use Rattle.sr_words.proofs.laws.boards_know_their_pipes.Goals as goal

pub returns-clause-pipes : goal.returns-clause-pipes
returns-clause-pipes c = boards_know

pub returns-clause-controller : goal.returns-clause-controller
returns-clause-controller c = boards_know_controller
