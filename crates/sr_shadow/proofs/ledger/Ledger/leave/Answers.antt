use Rattle.sr_shadow.specs.Entry.{left_other}
use Rattle.sr_shadow.proofs.Fitting.{fits_changed, fits_still}
use Rattle.sr_shadow.proofs.ledger.Ledger.leave.Goals as goal

pub invariant_of-self : goal.invariant_of-self
invariant_of-self c =
    fits_still c.self.inside.indexed c.leave.new.self _ c.leave.ensures.layout c.leave.ensures.book
    (fits_changed _ _ (left_other) c.args.key (λ e f. record { stands = f.stands; before = f.before }) c.self.inside.indexed.book.entries c.self.invariant)
