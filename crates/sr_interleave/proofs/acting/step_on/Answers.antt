use Rattle.std.proofs.Common.{◌∙◌, arith, ap, refl, subst, sym}
use Rattle.sr_core.specs.PlainWords.{HeldWords}
use Rattle.sr_interleave.proofs.Boards.{is_for, same_name}
use Rattle.sr_interleave.proofs.Events.{busy_on}
use Rattle.sr_interleave.specs.Acting.{StepsOn}
use Rattle.sr_interleave.proofs.acting.step_on.Goals as goal

pub step-requires-clause-board : goal.step-requires-clause-board
step-requires-clause-board c =
    is_for c.as_actor-actor.result.board.now.layout c.as_actor-actor.result.actor _ c.number-number.result c.args.pipe.now
    (ap (λ (h : HeldWords). h.layout) c.as_actor-actor.ensures.board ∙ sym c.requires.layout) refl c.as_actor-actor.ensures.actor
    (sym c.number-number.ensures)

pub returns-clause-step : goal.returns-clause-step
returns-clause-step c =
    let named = same_name _ _ _ _ _ c.step.ensures.beside refl refl c.as_actor-actor.ensures.name in
    subst (λ (h : HeldWords). StepsOn c.args.board.now c.args.pipe.now.view h c.step.new.self.view) (sym (grind (arith, named)))
    (busy_on c.args.board.now c.as_actor-actor.result.board.now c.step.new.board.board.now c.args.pipe.now c.step.new.self.view _ _
    c.step.ensures.step.0 (sym c.if-is_idle.ensures) c.as_actor-actor.ensures.board c.requires.layout refl refl c.step.ensures.step.1)
