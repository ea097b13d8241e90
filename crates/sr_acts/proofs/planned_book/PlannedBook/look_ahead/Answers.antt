use Rattle.std.proofs.Common.{subst, sym}
use Rattle.sr_acts.specs.Pending.{IsAsked, awaits, has_put}
use Rattle.sr_base.specs.Layout.{LayoutView}
use Rattle.sr_shadow.specs.Ledger.{LedgerView}
use Rattle.sr_acts.proofs.planned_book.PlannedBook.look_ahead.Goals as goal

pub invariant_of-self : goal.invariant_of-self
invariant_of-self c = (
  c.self.invariant.0,
  subst (λ (l : LayoutView). IsAsked (has_put l.shape c.self.inside.ledger.book.entries) c.still_unplanned-unplanned.result c.self.inside.ledger.book) c.self.invariant.0
      (subst (λ (l : LedgerView). IsAsked (has_put l.layout.shape l.book.entries) c.still_unplanned-unplanned.result l.book) (sym c.self.view_is) c.still_unplanned-unplanned.ensures),
  subst (λ (l : LedgerView). IsAsked (awaits c.unwrap_or-awaiting.result) c.still_unawaited-unawaited.result l.book) (sym c.self.view_is) c.still_unawaited-unawaited.ensures,
)
