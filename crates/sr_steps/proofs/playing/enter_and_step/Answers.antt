use Rattle.sr_machine.specs.declared.actor.Actor.TheVariants as actor
use Rattle.sr_machine.specs.declared.event.Event.TheVariants.{Enter, Step}
use Rattle.sr_steps.proofs.Plays.{events_made}
use Rattle.sr_steps.proofs.playing.enter_and_step.Goals as goal

pub returns : goal.returns
returns c =
    events_made (Enter c.args.pipe c.args.packet) (Step (actor.Pipe c.args.pipe)) c.args.core.now c.make.new.core c.step.new.core
    c.in_ok-make.ensures c.in_ok-step.ensures
