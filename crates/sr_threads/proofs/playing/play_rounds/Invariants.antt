use Rattle.sr_threads.proofs.Rounding.{SoFar}
use Rattle.sr_threads.proofs.playing.play_rounds.Given as goal

abbrev pub invariant-loop-round : goal.invariant-loop-round
invariant-loop-round g l =
    SoFar l.layout l.packets l.rounds l.round-index l.initial.workers l.initial.board l.initial.controller l.workers l.board l.controller
