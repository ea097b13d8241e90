use Rattle.std.proofs.Common.{subst}
use Rattle.std.specs.Result.{IfOk}
use Rattle.sr_machine.specs.Config.{Config}
use Rattle.sr_threads.specs.Replayed.{RunsOnThreads}
use Rattle.sr_threads.proofs.replaying.run_on_threads.Goals as goal

pub returns : goal.returns
returns g c =
    subst (λ (k : Config). IfOk c.run_under.result (λ played. RunsOnThreads k c.args.packets.now played.lines.items played.awaited))
    c.in_ok-controller.ensures.config c.run_under.ensures
