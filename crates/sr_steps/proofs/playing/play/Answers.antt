use Rattle.std.proofs.Common.{◌∙◌, ap, refl, None, Some}
use Rattle.sr_gen.specs.Generator.{next_state}
use Rattle.sr_picks.proofs.Picked.{picked_goes_on}
use Rattle.sr_steps.specs.Standing.{no_words, play_of}
use Rattle.sr_steps.proofs.Plays.{lowers_play, picked_is, plays_on, plays_over}
use Rattle.sr_steps.proofs.playing.play.Goals as goal

pub loop-actor-init : goal.loop-actor-init
loop-actor-init c = λ words shows. (0, words, shows, refl)

pub act-requires : goal.act-requires
act-requires c =
    picked_goes_on (play_of c.loop-actor.core no_words c.loop-actor.standing) (next_state c.loop-actor.standing.generator) c.in-Some.actor
    (picked_is c.loop-actor.core c.loop-actor.standing c.draw-drawn.new.self c.draw-drawn.result c.generator-generator.result c.pipes.result
    (Some c.in-Some.actor) c.generator-generator.ensures c.draw-drawn.ensures.state c.draw-drawn.ensures.value c.pipes.ensures.value
    c.in-Some.ensures)

pub loop-actor-smaller : goal.loop-actor-smaller
loop-actor-smaller c =
    lowers_play c.loop-actor.core c.act.new.core c.loop-actor.standing c.act.new.standing c.drawn.new.self c.draw-drawn.new.self
    c.in-Some.actor
    (picked_goes_on (play_of c.loop-actor.core no_words c.loop-actor.standing) (next_state c.loop-actor.standing.generator) c.in-Some.actor
    (picked_is c.loop-actor.core c.loop-actor.standing c.draw-drawn.new.self c.draw-drawn.result c.generator-generator.result c.pipes.result
    (Some c.in-Some.actor) c.generator-generator.ensures c.draw-drawn.ensures.state c.draw-drawn.ensures.value c.pipes.ensures.value
    c.in-Some.ensures))
    c.in_ok-act-in-Some.ensures c.drawn.ensures

pub loop-actor-preserved : goal.loop-actor-preserved
loop-actor-preserved c = λ words shows.
    let so_far = c.loop-actor.invariant words shows in
    plays_on (play_of c.args.core.now words c.args.standing.now) so_far.0 c.loop-actor.core c.act.new.core c.loop-actor.standing
    c.act.new.standing c.drawn.new.self so_far.1 c.draw-drawn.new.self c.in-Some.actor so_far.2 so_far.3
    (picked_is c.loop-actor.core c.loop-actor.standing c.draw-drawn.new.self c.draw-drawn.result c.generator-generator.result c.pipes.result
    (Some c.in-Some.actor) c.generator-generator.ensures c.draw-drawn.ensures.state c.draw-drawn.ensures.value c.pipes.ensures.value
    c.in-Some.ensures)
    c.in_ok-act-in-Some.ensures (c.draw-drawn.ensures.state ∙ ap next_state c.generator-generator.ensures) c.drawn.ensures

pub returns-in-None : goal.returns-in-None
returns-in-None c = λ words shows.
    plays_over (play_of c.args.core.now words c.args.standing.now) c.loop-actor.core c.loop-actor.standing
    (c.loop-actor.invariant words shows)
    (picked_is c.loop-actor.core c.loop-actor.standing c.draw-drawn.new.self c.draw-drawn.result c.generator-generator.result c.pipes.result
    None c.generator-generator.ensures c.draw-drawn.ensures.state c.draw-drawn.ensures.value c.pipes.ensures.value
    c.in-None.ensures)
