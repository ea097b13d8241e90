use Rattle.std.proofs.Common.{subst, sym}
use Rattle.sr_core.specs.HeldCore.{state_of}
use Rattle.sr_steps.proofs.Runs.{LeadsOn, leads_from, leads_next}
use Rattle.sr_steps.proofs.running.play_rounds.Goals as goal

pub loop-round-init : goal.loop-round-init
loop-round-init c = λ words shows.
    subst
    (λ g. LeadsOn c.args.packets.now c.args.rounds.now c.args.seed (state_of c.args.core.now words) c.args.rounds.now g c.args.core.now)
    (sym c.new-generator.ensures) (leads_from c.args.packets.now c.args.rounds.now c.args.seed c.args.core.now words shows)

pub loop-round-preserved : goal.loop-round-preserved
loop-round-preserved c = λ words shows.
    leads_next c.args.packets.now c.args.rounds.now c.args.seed (state_of c.args.core.now words) c.loop-round.round-index _
    c.loop-round.generator c.in_ok-generator.generator c.loop-round.core c.play_round.new.core c.loop-round-test.true
    (c.loop-round.invariant words shows) c.in_ok-generator.ensures
