use Rattle.std.proofs.Common.{arith, refl, subst, sym, true, false}
use Rattle.sr_core.specs.PlainWords.{HeldWords}
use Rattle.sr_interleave.proofs.Boards.{same_name}
use Rattle.sr_interleave.proofs.Turns.{turn_on}
use Rattle.sr_interleave.specs.Acting.{TurnMadeOn}
use Rattle.sr_machine.specs.declared.turn.Turn.TheVariants as turn
use Rattle.sr_interleave.proofs.acting.turn.Goals as goal

pub returns-in-Did-clause-turned : goal.returns-in-Did-clause-turned
returns-in-Did-clause-turned c =
    let named = same_name _ _ _ _ _ c.turn.ensures.beside refl refl c.as_actor-actor.ensures.name in
    subst (λ (h : HeldWords). TurnMadeOn false c.args.board.now c.args.controller.now h c.turn.new.self) (sym (grind (arith, named)))
    (turn_on (turn.Did c.in-Did.field-0) false c.args.board.now c.as_actor-actor.result.board.now c.turn.new.board.board.now c.args.controller.now c.turn.new.self _ _ _ _
    c.turning_is_the_machines.ensures c.requires c.as_actor-actor.ensures.board c.turn.ensures.beside refl refl c.turn.ensures.config refl
    c.in-Did.ensures.turned)

pub returns-in-NotYet-clause-turned : goal.returns-in-NotYet-clause-turned
returns-in-NotYet-clause-turned c =
    let named = same_name _ _ _ _ _ c.turn.ensures.beside refl refl c.as_actor-actor.ensures.name in
    subst (λ (h : HeldWords). TurnMadeOn false c.args.board.now c.args.controller.now h c.turn.new.self) (sym (grind (arith, named)))
    (turn_on (turn.NotYet c.in-NotYet.pipe c.in-NotYet.entered) false c.args.board.now c.as_actor-actor.result.board.now c.turn.new.board.board.now c.args.controller.now c.turn.new.self _ _ _ _
    c.turning_is_the_machines.ensures c.requires c.as_actor-actor.ensures.board c.turn.ensures.beside refl refl c.turn.ensures.config refl
    c.in-NotYet.ensures.turned)

pub returns-in-NoRoom-clause-turned : goal.returns-in-NoRoom-clause-turned
returns-in-NoRoom-clause-turned c =
    let named = same_name _ _ _ _ _ c.turn.ensures.beside refl refl c.as_actor-actor.ensures.name in
    subst (λ (h : HeldWords). TurnMadeOn true c.args.board.now c.args.controller.now h c.turn.new.self) (sym (grind (arith, named)))
    (turn_on (turn.NoRoom c.in-NoRoom.key) true c.args.board.now c.as_actor-actor.result.board.now c.turn.new.board.board.now c.args.controller.now c.turn.new.self _ _ _ _
    c.turning_is_the_machines.ensures c.requires c.as_actor-actor.ensures.board c.turn.ensures.beside refl refl c.turn.ensures.config refl
    c.in-NoRoom.ensures.turned)

pub returns-in-VersionsFull-clause-turned : goal.returns-in-VersionsFull-clause-turned
returns-in-VersionsFull-clause-turned c =
    let named = same_name _ _ _ _ _ c.turn.ensures.beside refl refl c.as_actor-actor.ensures.name in
    subst (λ (h : HeldWords). TurnMadeOn true c.args.board.now c.args.controller.now h c.turn.new.self) (sym (grind (arith, named)))
    (turn_on (turn.VersionsFull c.in-VersionsFull.vip) true c.args.board.now c.as_actor-actor.result.board.now c.turn.new.board.board.now c.args.controller.now c.turn.new.self _ _ _ _
    c.turning_is_the_machines.ensures c.requires c.as_actor-actor.ensures.board c.turn.ensures.beside refl refl c.turn.ensures.config refl
    c.in-VersionsFull.ensures.turned)

pub returns-in-Idle-clause-turned : goal.returns-in-Idle-clause-turned
returns-in-Idle-clause-turned c =
    let named = same_name _ _ _ _ _ c.turn.ensures.beside refl refl c.as_actor-actor.ensures.name in
    subst (λ (h : HeldWords). TurnMadeOn true c.args.board.now c.args.controller.now h c.turn.new.self) (sym (grind (arith, named)))
    (turn_on turn.Idle true c.args.board.now c.as_actor-actor.result.board.now c.turn.new.board.board.now c.args.controller.now c.turn.new.self _ _ _ _
    c.turning_is_the_machines.ensures c.requires c.as_actor-actor.ensures.board c.turn.ensures.beside refl refl c.turn.ensures.config refl
    c.in-Idle.ensures.turned)

pub returns-in-NoRoom-clause-layout : goal.returns-in-NoRoom-clause-layout
returns-in-NoRoom-clause-layout c =
    let named = same_name _ _ _ _ _ c.turn.ensures.beside refl refl c.as_actor-actor.ensures.name in
    let before = c.as_actor-actor.ensures.board in
    let kept = c.turn.ensures.beside in
    grind (arith, named, before, kept)

pub returns-in-VersionsFull-clause-layout : goal.returns-in-VersionsFull-clause-layout
returns-in-VersionsFull-clause-layout c =
    let named = same_name _ _ _ _ _ c.turn.ensures.beside refl refl c.as_actor-actor.ensures.name in
    let before = c.as_actor-actor.ensures.board in
    let kept = c.turn.ensures.beside in
    grind (arith, named, before, kept)

pub returns-in-Idle-clause-layout : goal.returns-in-Idle-clause-layout
returns-in-Idle-clause-layout c =
    let named = same_name _ _ _ _ _ c.turn.ensures.beside refl refl c.as_actor-actor.ensures.name in
    let before = c.as_actor-actor.ensures.board in
    let kept = c.turn.ensures.beside in
    grind (arith, named, before, kept)
