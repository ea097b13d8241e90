use Rattle.std.proofs.Common.{refl}
use Rattle.sr_acts.proofs.Asked.{awaited_closed, planned_changed, planned_still}
use Rattle.sr_shadow.specs.Book.{with_closed}
use Rattle.sr_shadow.specs.Entry.{closed}
use Rattle.sr_acts.proofs.planned_book.PlannedBook.close.Goals as goal

pub invariant_of-self : goal.invariant_of-self
invariant_of-self c =
    let s = c.self.inside in
    let b = s.ledger.book in
    planned_still s.ledger c.close.new.self s.layout s.unplanned s.unawaited s.awaiting (with_closed c.args.key b) c.self.invariant.0 c.close.ensures.layout c.close.ensures.book
    (planned_changed s.layout.shape s.unplanned closed c.args.key b (λ e. record { places = record { key = refl; place = refl; also = refl }; version = refl; taken = refl }) c.self.invariant.1)
    (awaited_closed s.awaiting s.unawaited c.args.key b c.self.invariant.2)
