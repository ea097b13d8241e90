use Rattle.sr_shadow.proofs.Fitting.{fits_still, fits_without}
use Rattle.sr_shadow.proofs.ledger.Ledger.retire.Goals as goal

pub invariant_of-self : goal.invariant_of-self
invariant_of-self c =
    fits_still c.self.inside.indexed c.retire.new.self _ c.retire.ensures.layout c.retire.ensures.book (fits_without _ _ c.args.key c.self.inside.indexed.book.entries c.self.invariant)
