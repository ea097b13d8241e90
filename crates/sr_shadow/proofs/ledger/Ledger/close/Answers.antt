use Rattle.sr_shadow.specs.Entry.{closed}
use Rattle.sr_shadow.proofs.Fitting.{fits_changed, fits_still}
use Rattle.sr_shadow.proofs.ledger.Ledger.close.Goals as goal

pub invariant_of-self : goal.invariant_of-self
invariant_of-self c =
    fits_still c.self.inside.indexed c.close.new.self _ c.close.ensures.layout c.close.ensures.book
    (fits_changed _ _ (closed) c.args.key (λ e f. record { stands = f.stands; before = f.before }) c.self.inside.indexed.book.entries c.self.invariant)
