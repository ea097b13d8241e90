use Rattle.sr_shadow.specs.Entry.{swept}
use Rattle.sr_shadow.proofs.Fitting.{fits_changed, fits_still}
use Rattle.sr_shadow.proofs.ledger.Ledger.sweep.Goals as goal

pub invariant_of-self : goal.invariant_of-self
invariant_of-self c =
    fits_still c.self.inside.indexed c.sweep.new.self _ c.sweep.ensures.layout c.sweep.ensures.book
    (fits_changed _ _ (swept c.args.hit) c.args.key (λ e f. record { stands = f.stands; before = f.before }) c.self.inside.indexed.book.entries c.self.invariant)
