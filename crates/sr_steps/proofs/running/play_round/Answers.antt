use Rattle.sr_steps.proofs.Runs.{round_played}
use Rattle.sr_steps.proofs.running.play_round.Goals as goal

pub returns : goal.returns
returns c =
    round_played c.args.packets.now c.args.round.now c.args.generator c.generator.result c.args.core.now c.make.new.core c.play.new.core
    c.new-standing.result c.play.new.standing c.pipes.result c.in_ok-shares.shares.items c.in_ok-make.ensures c.pipes.ensures.value
    c.in_ok-shares.ensures c.new-standing.ensures c.in_ok-play.ensures c.generator.ensures
