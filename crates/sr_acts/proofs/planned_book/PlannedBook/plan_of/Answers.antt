use Rattle.std.proofs.Common.{sym, subst}
use Rattle.sr_acts.proofs.Plans.{plan_fits}
use Rattle.sr_acts.specs.Fits.{FitsPlan}
use Rattle.sr_shadow.specs.Ledger.{LedgerView}
use Rattle.sr_acts.proofs.planned_book.PlannedBook.plan_of.Goals as goal

pub returns-clause-fits : goal.returns-clause-fits
returns-clause-fits c =
    let s = c.self.inside.layout.shape in
    let es = c.self.inside.ledger.book.entries in
    let key = c.args.key in
    subst (λ (l : LedgerView). FitsPlan l.layout.shape c.plan_in.result) c.self.view_is
    (subst (λ l. FitsPlan l.shape c.plan_in.result) (sym c.self.invariant.0)
    (plan_fits s es key c.own_places_stand.ensures (c.plans_give.ensures.slots s es key) (c.plans_give.ensures.rows s es key)
    (c.plans_give.ensures.moves s es key) c.plan_in.result (sym c.plan_in.ensures)))
