use Rattle.std.proofs.Common.{subst, sym, ap}
use Rattle.sr_acts.proofs.Asked.{awaited_settled, planned_still}
use Rattle.sr_acts.specs.Pending.{IsAsked, has_put}
use Rattle.sr_base.specs.declared.shape.Shape.{Shape}
use Rattle.sr_shadow.specs.Book.{with_settled}
use Rattle.sr_shadow.specs.Ledger.{LedgerView}
use Rattle.sr_acts.proofs.planned_book.PlannedBook.settle.Goals as goal

pub invariant_of-self : goal.invariant_of-self
invariant_of-self c =
    let s = c.self.inside in
    let b = s.ledger.book in
    planned_still s.ledger c.settle.new.self s.layout c.unplanned_after-unplanned.result s.unawaited s.awaiting (with_settled c.args.key c.args.place b) c.self.invariant.0 c.settle.ensures.layout c.settle.ensures.book
    (subst (λ (l : Shape). IsAsked (has_put l (with_settled c.args.key c.args.place b).entries) c.unplanned_after-unplanned.result (with_settled c.args.key c.args.place b)) (ap (λ l. l.shape) c.self.invariant.0)
    (subst (λ (l : LedgerView). IsAsked (has_put l.layout.shape (with_settled c.args.key c.args.place l.book).entries) c.unplanned_after-unplanned.result (with_settled c.args.key c.args.place l.book)) (sym c.self.view_is) c.unplanned_after-unplanned.ensures))
    (awaited_settled s.awaiting s.unawaited c.args.key c.args.place b c.self.invariant.2)
