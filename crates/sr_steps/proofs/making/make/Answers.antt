use Rattle.sr_core.specs.HeldCore.{state_of}
use Rattle.sr_machine.specs.Core.{step_event}
use Rattle.sr_steps.proofs.Plays.{event_made, event_missed}
use Rattle.sr_steps.proofs.making.make.Goals as goal

pub returns-in-Made : goal.returns-in-Made
returns-in-Made c = λ words shows.
    event_made (step_event c.args.event (state_of c.args.core.now words)) (state_of c.args.core.now words) c.args.core.now c.step.new.self
    (c.in-Made.ensures words shows)

pub returns-in-NotNow : goal.returns-in-NotNow
returns-in-NotNow c = λ words shows.
    event_missed (step_event c.args.event (state_of c.args.core.now words)) c.args.core.now c.step.new.self words shows
    (c.in-NotNow.ensures words shows)
