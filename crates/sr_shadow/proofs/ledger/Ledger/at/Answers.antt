use Rattle.std.proofs.Common.{subst}
use Rattle.std.specs.Prelude.{IfSome, option_copied}
use Rattle.sr_shadow.specs.Ledger.{FitsEntry}
use Rattle.sr_shadow.proofs.Fitting.{fits_at}
use Rattle.sr_shadow.proofs.ledger.Ledger.at.Goals as goal

pub returns-clause-fit : goal.returns-clause-fit
returns-clause-fit c =
    subst (λ l. IfSome (option_copied c.at.result) (FitsEntry l.layout.shape l.book.taken)) c.self.view_is (fits_at _ _ c.args.i _ _ c.at.ensures c.self.invariant)
