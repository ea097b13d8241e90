use Rattle.std.proofs.Common.{◌∙◌, ap, sym, None, Some}
use Rattle.sr_base.specs.Layout.{LayoutView}
use Rattle.sr_base.specs.declared.shape.Shape.{Shape}
use Rattle.sr_gen.specs.Generator.{next_state}
use Rattle.sr_interleave.proofs.Picks.{lowers_play, picked_is, picks_on, picks_over}
use Rattle.sr_interleave.specs.Standing.{play_of, seen_play}
use Rattle.sr_interleave.specs.Together.{held}
use Rattle.sr_machine.specs.Config.{Config}
use Rattle.sr_picks.proofs.Picked.{picked_goes_on}
use Rattle.sr_interleave.proofs.interleaving.play.Goals as goal

pub act-requires-clause-going : goal.act-requires-clause-going
act-requires-clause-going c =
    picked_goes_on (seen_play c.loop-actor.pipes c.loop-actor.controller c.loop-actor.standing) (next_state c.loop-actor.standing.generator) c.in-Some.actor
    (picked_is c.loop-actor.pipes c.loop-actor.controller c.loop-actor.standing c.generator.result c.next_state-state.result c.drawn.result
    c.shape.result.now.pipes (Some c.in-Some.actor) c.generator.ensures c.next_state-state.ensures c.drawn.ensures
    (ap (λ (s : Shape). s.pipes) c.shape.ensures ∙ ap (λ (l : LayoutView). l.shape.pipes) c.layout-2.ensures
    ∙ ap (λ (k : Config). k.layout.shape.pipes) (c.config-2.ensures ∙ sym c.loop-actor.invariant.1)) c.in-Some.ensures)

pub loop-actor-smaller : goal.loop-actor-smaller
loop-actor-smaller c =
    lowers_play (held c.loop-actor.board c.loop-actor.pipes c.loop-actor.controller) (held c.act.new.board c.act.new.pipes c.act.new.controller)
    c.loop-actor.standing c.act.new.standing c.drawn-in-Some.new.self c.next_state-state.result c.in-Some.actor
    (picked_goes_on (seen_play c.loop-actor.pipes c.loop-actor.controller c.loop-actor.standing) (next_state c.loop-actor.standing.generator) c.in-Some.actor
    (picked_is c.loop-actor.pipes c.loop-actor.controller c.loop-actor.standing c.generator.result c.next_state-state.result c.drawn.result
    c.shape.result.now.pipes (Some c.in-Some.actor) c.generator.ensures c.next_state-state.ensures c.drawn.ensures
    (ap (λ (s : Shape). s.pipes) c.shape.ensures ∙ ap (λ (l : LayoutView). l.shape.pipes) c.layout-2.ensures
    ∙ ap (λ (k : Config). k.layout.shape.pipes) (c.config-2.ensures ∙ sym c.loop-actor.invariant.1)) c.in-Some.ensures))
    c.in_ok-act-in-Some.ensures.made c.drawn-in-Some.ensures

pub loop-actor-preserved : goal.loop-actor-preserved
loop-actor-preserved c = (
  c.act.ensures.together,
  c.act.ensures.config ∙ c.loop-actor.invariant.1,
  λ words shows.
      picks_on (play_of (held c.args.board.now c.args.pipes.now c.args.controller.now) words c.args.standing.now)
      (held c.loop-actor.board c.loop-actor.pipes c.loop-actor.controller) (held c.act.new.board c.act.new.pipes c.act.new.controller)
      c.loop-actor.standing c.act.new.standing c.drawn-in-Some.new.self c.next_state-state.result c.in-Some.actor
      (c.loop-actor.invariant.2 words shows)
      (picked_is c.loop-actor.pipes c.loop-actor.controller c.loop-actor.standing c.generator.result c.next_state-state.result c.drawn.result
      c.shape.result.now.pipes (Some c.in-Some.actor) c.generator.ensures c.next_state-state.ensures c.drawn.ensures
      (ap (λ (s : Shape). s.pipes) c.shape.ensures ∙ ap (λ (l : LayoutView). l.shape.pipes) c.layout-2.ensures
      ∙ ap (λ (k : Config). k.layout.shape.pipes) (c.config-2.ensures ∙ sym c.loop-actor.invariant.1)) c.in-Some.ensures)
      c.in_ok-act-in-Some.ensures.made (c.next_state-state.ensures ∙ ap next_state c.generator.ensures) c.drawn-in-Some.ensures,
)

pub returns-in-None-clause-played : goal.returns-in-None-clause-played
returns-in-None-clause-played c = λ words shows.
    picks_over (play_of (held c.args.board.now c.args.pipes.now c.args.controller.now) words c.args.standing.now)
    (held c.loop-actor.board c.loop-actor.pipes c.loop-actor.controller) c.loop-actor.standing (c.loop-actor.invariant.2 words shows)
    (picked_is c.loop-actor.pipes c.loop-actor.controller c.loop-actor.standing c.generator.result c.next_state-state.result c.drawn.result
    c.shape.result.now.pipes None c.generator.ensures c.next_state-state.ensures c.drawn.ensures
    (ap (λ (s : Shape). s.pipes) c.shape.ensures ∙ ap (λ (l : LayoutView). l.shape.pipes) c.layout-2.ensures
    ∙ ap (λ (k : Config). k.layout.shape.pipes) (c.config-2.ensures ∙ sym c.loop-actor.invariant.1)) c.in-None.ensures)
