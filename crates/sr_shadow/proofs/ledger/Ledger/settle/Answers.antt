use Rattle.std.proofs.Common.{subst, sym}
use Rattle.sr_base.specs.WordName.{HasPlace}
use Rattle.sr_shadow.specs.Entry.{settled}
use Rattle.sr_shadow.proofs.Fitting.{fits_changed, fits_still}
use Rattle.sr_shadow.proofs.ledger.Ledger.settle.Goals as goal

pub invariant_of-self : goal.invariant_of-self
invariant_of-self c =
    fits_still c.self.inside.indexed c.settle.new.self _ c.settle.ensures.layout c.settle.ensures.book
    (fits_changed _ _ (settled c.args.place) c.args.key (λ e f. record { stands = subst (λ l. HasPlace l.layout.shape c.args.place) (sym c.self.view_is) c.requires.has; before = f.before }) c.self.inside.indexed.book.entries c.self.invariant)
