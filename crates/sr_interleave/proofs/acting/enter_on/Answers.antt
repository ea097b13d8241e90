use Rattle.std.proofs.Common.{◌∙◌, arith, ap, refl, subst, sym}
use Rattle.sr_core.specs.PlainWords.{HeldWords}
use Rattle.sr_interleave.proofs.Boards.{is_for, same_name}
use Rattle.sr_interleave.proofs.Events.{entered_on}
use Rattle.sr_interleave.specs.Acting.{EntersOn}
use Rattle.sr_interleave.proofs.acting.enter_on.Goals as goal

pub enter-requires-clause-board : goal.enter-requires-clause-board
enter-requires-clause-board c =
    is_for c.as_actor-actor.result.board.now.layout c.as_actor-actor.result.actor _ c.number-number.result c.reserve.new.self
    (ap (λ (h : HeldWords). h.layout) c.as_actor-actor.ensures.board ∙ sym c.requires.pipe ∙ sym c.reserve.ensures.layout) refl
    c.as_actor-actor.ensures.actor (sym c.number-number.ensures)

pub returns-clause-made : goal.returns-clause-made
returns-clause-made c =
    let named = same_name _ _ _ _ _ c.enter.ensures.beside refl refl c.as_actor-actor.ensures.name in
    subst (λ (h : HeldWords). EntersOn c.args.packet c.args.board.now c.args.pipe.now.view h c.enter.new.self.view)
    (sym (grind (arith, named)))
    (entered_on c.args.packet c.args.board.now c.as_actor-actor.result.board.now c.enter.new.board.board.now c.args.pipe.now c.reserve.new.self
    c.enter.new.self.view c.as_actor-actor.ensures.board c.requires.pipe c.reserve.ensures.layout c.reserve.ensures.view c.enter.ensures.view c.enter.ensures.words)
