use Rattle.sr_steps.proofs.Runs.{round_acted}
use Rattle.sr_steps.proofs.replaying.replay_round.Goals as goal

pub returns : goal.returns
returns c =
    round_acted c.args.packets.now c.args.round.now c.args.core.now c.make.new.core c.play_in_order.new.core c.new-standing.result
    c.play_in_order.new.standing c.pipes.result c.new.result c.in_ok-shares.shares.items c.in_ok-make.ensures c.pipes.ensures.value
    c.in_ok-shares.ensures c.new-standing.ensures c.new.ensures c.in_ok-play_in_order.ensures
