use Rattle.std.proofs.Common.{subst}
use Rattle.std.specs.Prelude.{IfSome, option_copied}
use Rattle.sr_shadow.specs.Ledger.{FitsEntry}
use Rattle.sr_shadow.proofs.Fitting.{fits_found}
use Rattle.sr_shadow.proofs.ledger.Ledger.first_retirable.Goals as goal

pub returns-clause-fit : goal.returns-clause-fit
returns-clause-fit c =
    subst (λ l. IfSome (option_copied c.first_retirable.result) (FitsEntry l.layout.shape l.book.taken)) c.self.view_is (fits_found _ _ _ _ _ c.first_retirable.ensures c.self.invariant)
