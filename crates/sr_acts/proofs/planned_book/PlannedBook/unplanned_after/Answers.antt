use Rattle.std.proofs.Common.{subst, sym}
use Rattle.sr_acts.proofs.Asked.{planned_settled}
use Rattle.sr_acts.proofs.Scans.{asked_none}
use Rattle.sr_acts.specs.Pending.{IsAsked, has_put}
use Rattle.sr_base.specs.Layout.{LayoutView}
use Rattle.sr_shadow.specs.Book.{DistinctKeys, with_settled}
use Rattle.sr_shadow.specs.Ledger.{LedgerView}
use Rattle.sr_acts.proofs.planned_book.PlannedBook.unplanned_after.Goals as goal

pub returns-then-makes_no_room : goal.returns-then-makes_no_room
returns-then-makes_no_room c =
    let l = c.args.self.now in
    let before = subst (λ (z : LedgerView). IsAsked (has_put z.layout.shape z.book.entries) c.self.inside.unplanned z.book) c.self.view_is
    (subst (λ (z : LayoutView). IsAsked (has_put z.shape c.self.inside.ledger.book.entries) c.self.inside.unplanned c.self.inside.ledger.book) (sym c.self.invariant.0) c.self.invariant.1) in
    planned_settled l.layout.shape c.self.inside.unplanned c.args.key c.args.place l.book (subst (λ (z : LedgerView). DistinctKeys z.book.entries) c.self.view_is c.ledger_rules.ensures.book.distinct)
    c.requires (c.makes_no_room.ensures c.if-makes_no_room.true) before

pub returns-else-makes_no_room : goal.returns-else-makes_no_room
returns-else-makes_no_room c =
    asked_none (has_put c.args.self.now.layout.shape (with_settled c.args.key c.args.place c.args.self.now.book).entries) (with_settled c.args.key c.args.place c.args.self.now.book)
