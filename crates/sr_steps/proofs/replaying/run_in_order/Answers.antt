use Rattle.std.proofs.Common.{◌∙◌, ap, subst}
use Rattle.sr_rounds.specs.Rounds.{rounds_of}
use Rattle.sr_steps.specs.Running.{ActsRounds}
use Rattle.sr_steps.proofs.Runs.{runs_in_order}
use Rattle.sr_steps.proofs.replaying.run_in_order.Goals as goal

pub returns : goal.returns
returns c =
    let cut = c.deref.ensures.value ∙ c.in_ok-rounds.ensures
    ∙ ap (λ s. rounds_of s.window_ms c.args.packets.now) (c.shape.ensures ∙ ap (λ l. l.shape) c.layout.ensures) in
    runs_in_order c.args.config c.args.packets.now c.in_ok-settled.settled c.in_ok-core.core c.replay_rounds.new.core c.settle.new.core
    c.in_ok-core.ensures
    (subst (λ rs. ActsRounds c.args.packets.now rs c.in_ok-core.core c.replay_rounds.new.core) cut c.in_ok-replay_rounds.ensures)
    c.in_ok-settled.ensures
