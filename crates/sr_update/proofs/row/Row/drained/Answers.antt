use Rattle.std.proofs.Common.{◌≤◌, sym, subst, ◌∙◌, List, length}
use Rattle.sr_update.specs.declared.number_state.NumberState.{NumberState}
use Rattle.sr_update.specs.Numbers.{is_draining}
use Rattle.sr_update.specs.Row.{Marks}
use Rattle.sr_update.proofs.Rows.{drained_found, drained_none}
use Rattle.sr_update.proofs.row.Row.drained.Goals as goal

pub returns-then-is_unused-clause-value : goal.returns-then-is_unused-clause-value
returns-then-is_unused-clause-value c =
    drained_found c.args.vip c.args.book.now.book.entries c.args.self.now c.self.inside.draining c.loop-n.from c.in-Some.n
    (subst (λ (row : List NumberState). Marks is_draining row c.self.inside.draining) c.self.view_is c.self.invariant.1.draining)
    c.loop-n.invariant.none c.in-Some.ensures (sym c.is_unused.ensures ∙ c.if-is_unused.true)

pub returns-clause-value : goal.returns-clause-value
returns-clause-value c =
    drained_none c.args.vip c.args.book.now.book.entries c.args.self.now c.self.inside.draining c.loop-n.from
    (subst (λ (row : List NumberState). length row ≤ 64) c.self.view_is c.self.invariant.1.most)
    (subst (λ (row : List NumberState). Marks is_draining row c.self.inside.draining) c.self.view_is c.self.invariant.1.draining)
    c.loop-n.invariant.none c.in_default.ensures
