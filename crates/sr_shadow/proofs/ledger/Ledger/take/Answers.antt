use Rattle.sr_shadow.proofs.Fitting.{fits_still, fits_taken}
use Rattle.sr_shadow.proofs.ledger.Ledger.take.Goals as goal

pub invariant_of-self : goal.invariant_of-self
invariant_of-self c =
    fits_still c.self.inside.indexed c.take.new.self _ c.take.ensures.layout c.take.ensures.book (fits_taken _ c.args.key c.args.version c.self.inside.indexed.book c.self.invariant)
