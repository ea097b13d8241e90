use Rattle.std.proofs.Common.{◌∙◌, ap, subst}
use Rattle.sr_rounds.specs.Rounds.{rounds_of}
use Rattle.sr_steps.specs.Running.{PlaysRounds}
use Rattle.sr_steps.proofs.Runs.{runs}
use Rattle.sr_steps.proofs.running.run_by_picks.Goals as goal

pub returns : goal.returns
returns c =
    let cut = c.deref.ensures.value ∙ c.in_ok-rounds.ensures
    ∙ ap (λ s. rounds_of s.window_ms c.args.packets.now) (c.shape.ensures ∙ ap (λ l. l.shape) c.layout.ensures) in
    runs c.args.config c.args.seed c.args.packets.now c.in_ok-settled.settled c.in_ok-core.core c.play_rounds.new.core c.settle.new.core
    c.in_ok-core.ensures
    (subst (λ rs. PlaysRounds c.args.packets.now rs c.args.seed c.in_ok-core.core c.play_rounds.new.core) cut c.in_ok-play_rounds.ensures)
    c.in_ok-settled.ensures
