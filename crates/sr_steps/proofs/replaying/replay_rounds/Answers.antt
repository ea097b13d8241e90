use Rattle.sr_core.specs.HeldCore.{state_of}
use Rattle.sr_steps.proofs.Runs.{acts_from, acts_next}
use Rattle.sr_steps.proofs.replaying.replay_rounds.Goals as goal

pub loop-round-init : goal.loop-round-init
loop-round-init c = λ words shows. acts_from c.args.packets.now c.args.rounds.now c.args.core.now words shows

pub loop-round-preserved : goal.loop-round-preserved
loop-round-preserved c = λ words shows.
    acts_next c.args.packets.now c.args.rounds.now (state_of c.args.core.now words) c.loop-round.round-index _
    c.loop-round.core c.replay_round.new.core c.loop-round-test.true
    (c.loop-round.invariant words shows) c.in_ok-replay_round.ensures
