use Rattle.std.proofs.Common.{refl}
use Rattle.sr_acts.proofs.Asked.{awaited_swept, planned_changed, planned_still}
use Rattle.sr_shadow.specs.Book.{with_swept}
use Rattle.sr_shadow.specs.Entry.{swept}
use Rattle.sr_acts.proofs.planned_book.PlannedBook.sweep.Goals as goal

pub invariant_of-self : goal.invariant_of-self
invariant_of-self c =
    let s = c.self.inside in
    let b = s.ledger.book in
    planned_still s.ledger c.sweep.new.self s.layout s.unplanned s.unawaited s.awaiting (with_swept c.args.key c.args.hit b) c.self.invariant.0 c.sweep.ensures.layout c.sweep.ensures.book
    (planned_changed s.layout.shape s.unplanned (swept c.args.hit) c.args.key b (λ e. record { places = record { key = refl; place = refl; also = refl }; version = refl; taken = refl }) c.self.invariant.1)
    (awaited_swept s.awaiting s.unawaited c.args.key c.args.hit b c.self.invariant.2)
