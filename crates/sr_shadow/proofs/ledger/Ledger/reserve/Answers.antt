use Rattle.sr_shadow.proofs.Fitting.{fits_still}
use Rattle.sr_shadow.proofs.ledger.Ledger.reserve.Goals as goal

pub invariant_of-self : goal.invariant_of-self
invariant_of-self c = fits_still c.self.inside.indexed c.reserve.new.self _ c.reserve.ensures.layout c.reserve.ensures.book c.self.invariant
