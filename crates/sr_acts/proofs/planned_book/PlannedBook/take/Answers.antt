use Rattle.sr_acts.proofs.Asked.{awaited_taken, planned_still, planned_taken}
use Rattle.sr_shadow.specs.Book.{with_taken}
use Rattle.sr_acts.proofs.planned_book.PlannedBook.take.Goals as goal

pub invariant_of-self : goal.invariant_of-self
invariant_of-self c =
    let s = c.self.inside in
    let b = s.ledger.book in
    planned_still s.ledger c.take.new.self s.layout s.unplanned s.unawaited s.awaiting (with_taken c.args.key c.args.version b) c.self.invariant.0 c.take.ensures.layout c.take.ensures.book
    (planned_taken s.layout.shape s.unplanned c.args.key c.args.version b c.self.invariant.1)
    (awaited_taken s.awaiting s.unawaited c.args.key c.args.version b c.self.invariant.2)
