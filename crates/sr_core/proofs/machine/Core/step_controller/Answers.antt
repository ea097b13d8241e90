use Rattle.std.proofs.Common.{None, Some, refl}
use Rattle.sr_core.specs.HeldCore.{state_of}
use Rattle.sr_core.proofs.Stepped.{controlled_steps}
use Rattle.sr_core.proofs.machine.Core.step_controller.Goals as goal

pub returns-in-Made : goal.returns-in-Made
returns-in-Made c = λ words shows. controlled_steps (state_of c.args.self.now words) None _ c.args.self.now _ refl (c.in-Made.ensures words shows)

pub returns-in-Ended : goal.returns-in-Ended
returns-in-Ended c = λ words shows.
    controlled_steps (state_of c.args.self.now words) (Some c.in-Ended.field-0) _ c.args.self.now _ refl (c.in-Ended.ensures words shows)
