use Rattle.sr_interleave.proofs.Events.{both_made}
use Rattle.sr_machine.specs.declared.actor.Actor.TheVariants as actor
use Rattle.sr_machine.specs.declared.event.Event.TheVariants.{Enter, Step}
use Rattle.sr_interleave.proofs.acting.enter_and_step.Goals as goal

pub returns-clause-made : goal.returns-clause-made
returns-clause-made c =
    both_made (Enter c.args.pipe c.args.packet) (Step (actor.Pipe c.args.pipe)) c.args.board.now c.enter.new.board c.step.new.board
    c.args.pipes.now c.enter.new.pipes c.step.new.pipes c.enter.ensures.layout c.in_ok-enter.ensures.made c.step.ensures.made
