use Rattle.std.proofs.Common.{arith, refl, subst, sym}
use Rattle.sr_core.specs.PlainWords.{HeldWords}
use Rattle.sr_interleave.proofs.Boards.{same_name}
use Rattle.sr_stepped.proofs.Settled.{settled_on}
use Rattle.sr_stepped.specs.Settling.{SettledOver}
use Rattle.sr_stepped.proofs.settling.settle.Goals as goal

pub returns-clause-settled : goal.returns-clause-settled
returns-clause-settled c =
    let named = same_name _ _ _ _ _ c.settle_all.ensures.beside refl refl c.as_actor-actor.ensures.name in
    subst (λ (h : HeldWords). SettledOver c.settle_all.result c.args.board.now c.args.controller.now h c.settle_all.new.self) (sym (grind (arith, named)))
    (settled_on c.settle_all.result c.args.board.now c.as_actor-actor.result.board.now c.settle_all.new.board.board.now c.args.controller.now
    c.settle_all.new.self _ _ _ _ c.settling_is_the_machines.ensures c.requires c.as_actor-actor.ensures.board c.settle_all.ensures.beside refl refl
    c.settle_all.ensures.config c.settle_all.ensures.settled)
