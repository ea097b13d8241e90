use Rattle.std.proofs.Common.{arith, subst, sym, ap, ◌∙◌, List, []}
use Rattle.std.proofs.lemmas.List.{take_all}
use Rattle.sr_update.specs.declared.give_change.GiveChange.{GiveChange}
use Rattle.sr_update.specs.Updates.{IsInOrder, gives_after}
use Rattle.sr_update.proofs.Dues.{gives_step, gives_in_order}
use Rattle.sr_update.proofs.updates.Updates.new.Goals as goal

pub loop-position-preserved : goal.loop-position-preserved
loop-position-preserved c =
    let h = gives_step c.args.changes.now c.loop-position.position c.index-changes-position.result c.loop-position.pools.items c.note.new.pools.items c.loop-position.gives.items
    c.note.new.gives.items c.loop-position-test.true c.index-changes-position.is c.loop-position.invariant.given c.loop-position.invariant.pooled c.in_ok-note.ensures in
    record { given = h.0; pooled = h.1 }

pub invariant_of-result : goal.invariant_of-result
invariant_of-result c =
    let e = c.loop-position.invariant.given ∙ ap (gives_after []) (take_all c.loop-position.position c.args.changes.now c.loop-position-test.false) in
    (omega arith, subst (λ (gs : List GiveChange). IsInOrder 0 gs) (sym e) (gives_in_order [] c.args.changes.now 0 c.requires.in_time))
