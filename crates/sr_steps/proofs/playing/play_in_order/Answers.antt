use Rattle.std.proofs.Common.{refl, []}
use Rattle.sr_steps.proofs.Plays.{acts_on, acts_over, first_goes_on, lowers_play}
use Rattle.sr_steps.specs.Standing.{play_of}
use Rattle.sr_steps.proofs.playing.play_in_order.Goals as goal

pub loop-actor-init : goal.loop-actor-init
loop-actor-init c = λ words shows. ([], words, shows, refl)

pub act-requires : goal.act-requires
act-requires c = first_goes_on c.loop-actor.core c.loop-actor.standing c.in-Some.actor c.in-Some.ensures

pub loop-actor-smaller : goal.loop-actor-smaller
loop-actor-smaller c =
    lowers_play c.loop-actor.core c.act.new.core c.loop-actor.standing c.act.new.standing c.act.new.standing c.act.new.standing.generator
    c.in-Some.actor (first_goes_on c.loop-actor.core c.loop-actor.standing c.in-Some.actor c.in-Some.ensures) c.in_ok-act-in-Some.ensures refl

pub loop-actor-preserved : goal.loop-actor-preserved
loop-actor-preserved c = λ words shows.
    let so_far = c.loop-actor.invariant words shows in
    acts_on (play_of c.args.core.now words c.args.standing.now) so_far.0 c.loop-actor.core c.act.new.core c.loop-actor.standing
    c.act.new.standing so_far.1 c.in-Some.actor so_far.2 so_far.3 c.in_ok-act-in-Some.ensures

pub returns-in-None : goal.returns-in-None
returns-in-None c = λ words shows.
    acts_over (play_of c.args.core.now words c.args.standing.now) c.loop-actor.core c.loop-actor.standing
    (c.loop-actor.invariant words shows) c.in-None.ensures
