use Rattle.std.proofs.Common.{◌∙◌, ap, subst}
use Rattle.sr_acts.proofs.Scans.{asked_to}
use Rattle.sr_acts.specs.Pending.{has_put, number_of}
use Rattle.sr_shadow.specs.Book.{TakenFrom}
use Rattle.sr_shadow.specs.Ledger.{LedgerView}
use Rattle.sr_acts.proofs.planned_book.PlannedBook.still_unplanned.Goals as goal

pub returns : goal.returns
returns c =
    let b = c.args.self.now.book in
    let rises = subst (λ (l : LedgerView). TakenFrom 0 l.book.entries l.book.taken) c.self.view_is c.ledger_rules.ensures.book.rising in
    asked_to (has_put c.args.self.now.layout.shape b.entries) b c.number_of.result rises (c.number_of.ensures ∙ ap (λ o. number_of o b.taken) c.first_planned.ensures.value)
