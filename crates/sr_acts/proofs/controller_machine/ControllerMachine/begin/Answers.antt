use Rattle.std.proofs.Common.{◌∙◌, ap, subst, sym}
use Rattle.sr_acts.proofs.Begun.{begun_free, free_is, job_started}
use Rattle.sr_acts.specs.HeldController.{HeldController}
use Rattle.sr_shadow.specs.Book.{DistinctKeys}
use Rattle.sr_shadow.specs.Ledger.{LedgerView}
use Rattle.sr_standing.specs.Standing.{Standing, Stands}
use Rattle.sr_acts.proofs.controller_machine.ControllerMachine.begin.Goals as goal

pub start-requires-clause-stands : goal.start-requires-clause-stands
start-requires-clause-stands c =
    let h = c.args.self.now in
    let i = c.self.inside in
    let act = c.first_act-act.result in
    let free = sym (ap (λ (z : HeldController). z.view.job) c.self.view_is) ∙ free_is i.job (sym c.is_free.ensures ∙ c.if-is_free.true) in
    let distinct = subst DistinctKeys (ap (λ (l : LedgerView). l.book.entries) c.ledger.ensures ∙ ap (λ (z : HeldController). z.view.book.entries) c.self.view_is) c.ledger_rules.ensures.book.distinct in
    let now = subst (λ (z : HeldController). Standing z.view.book.entries z.view.job) c.self.view_is c.self.invariant.8 in
    subst (Standing h.view.book.entries) (job_started h.view act)
    (subst Stands (begun_free h.config h.view act free c.first_act-act.ensures.value) (c.standings_are_kept.ensures.begun h.config h.view distinct now))
