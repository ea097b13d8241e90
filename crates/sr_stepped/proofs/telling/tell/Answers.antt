use Rattle.std.proofs.Common.{◌∙◌, arith, refl, subst, sym}
use Rattle.sr_core.specs.PlainWords.{HeldWords}
use Rattle.sr_interleave.proofs.Boards.{same_name}
use Rattle.sr_stepped.proofs.Told.{told_on, told_past}
use Rattle.sr_stepped.specs.Rounds.{ToldOn}
use Rattle.sr_stepped.proofs.telling.tell.Goals as goal

pub returns-then-not-can_be_told-clause-told : goal.returns-then-not-can_be_told-clause-told
returns-then-not-can_be_told-clause-told c =
    told_past c.args.ms c.args.board.now c.args.controller.now (sym c.can_be_told.ensures ∙ c.if-not-can_be_told.true)

pub returns-clause-told : goal.returns-clause-told
returns-clause-told c =
    let named = same_name _ _ _ _ _ c.due.ensures.beside refl refl c.as_actor-actor.ensures.name in
    subst (λ (h : HeldWords). ToldOn c.args.ms c.args.board.now c.args.controller.now h c.due.new.self) (sym (grind (arith, named)))
    (told_on c.args.ms c.args.board.now c.as_actor-actor.result.board.now c.due.new.board.board.now c.args.controller.now c.due.new.self _ _
    c.as_actor-actor.ensures.board c.requires c.due.ensures.beside refl refl c.due.ensures.config c.due.ensures.view c.due.ensures.words)
