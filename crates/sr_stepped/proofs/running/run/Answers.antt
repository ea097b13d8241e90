use Rattle.std.proofs.Common.{subst}
use Rattle.std.specs.Result.{IfOk}
use Rattle.sr_machine.specs.Config.{Config}
use Rattle.sr_stepped.specs.Running.{RunsTo}
use Rattle.sr_stepped.proofs.running.run.Goals as goal

pub returns : goal.returns
returns c =
    subst (λ (k : Config). IfOk c.run_under.result (λ played. RunsTo k c.args.seed c.args.packets.now played.lines.items played.awaited))
    c.in_ok-controller.ensures.config c.run_under.ensures
