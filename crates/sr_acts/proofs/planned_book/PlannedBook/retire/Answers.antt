use Rattle.sr_acts.proofs.Asked.{awaited_retired, planned_still}
use Rattle.sr_acts.proofs.Scans.{asked_none}
use Rattle.sr_acts.specs.Pending.{has_put}
use Rattle.sr_shadow.specs.Book.{with_retired}
use Rattle.sr_acts.proofs.planned_book.PlannedBook.retire.Goals as goal

pub invariant_of-self : goal.invariant_of-self
invariant_of-self c =
    let s = c.self.inside in
    let b = s.ledger.book in
    planned_still s.ledger c.retire.new.self s.layout 0 s.unawaited s.awaiting (with_retired c.args.key b) c.self.invariant.0 c.retire.ensures.layout c.retire.ensures.book
    (asked_none (has_put s.layout.shape (with_retired c.args.key b).entries) (with_retired c.args.key b))
    (awaited_retired s.awaiting s.unawaited c.args.key b c.self.invariant.2)
