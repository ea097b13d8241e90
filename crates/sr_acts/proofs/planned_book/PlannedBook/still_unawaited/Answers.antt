use Rattle.std.proofs.Common.{◌∙◌, ap, subst}
use Rattle.sr_acts.proofs.Scans.{asked_to}
use Rattle.sr_acts.specs.Pending.{awaits, number_of}
use Rattle.sr_shadow.specs.Book.{TakenFrom}
use Rattle.sr_shadow.specs.Ledger.{LedgerView}
use Rattle.sr_acts.proofs.planned_book.PlannedBook.still_unawaited.Goals as goal

pub returns : goal.returns
returns c =
    let b = c.args.self.now.book in
    let rises = subst (λ (l : LedgerView). TakenFrom 0 l.book.entries l.book.taken) c.self.view_is c.ledger_rules.ensures.book.rising in
    asked_to (awaits c.args.awaiting.now) b c.number_of.result rises (c.number_of.ensures ∙ ap (λ o. number_of o b.taken) c.first_awaited.ensures)
