use Rattle.std.proofs.Common.{◌≡◌, ◌<◌, ◌≤◌, ◌∙◌, Some, None, sym, subst, arith}
use Rattle.sr_acts.proofs.Asked.{awaited_pends}
use Rattle.sr_acts.proofs.Scans.{scan_found, scan_further, scan_none, scan_on}
use Rattle.sr_acts.specs.Pending.{awaits}
use Rattle.sr_shadow.specs.Book.{TakenFrom, pending_from}
use Rattle.sr_shadow.specs.Ledger.{LedgerView}
use Rattle.sr_acts.proofs.planned_book.PlannedBook.first_awaited.Goals as goal

pub returns-then-awaits : goal.returns-then-awaits
returns-then-awaits c =
    let a = c.args.awaiting.now in
    let n = c.loop-entry.number in
    let e = c.in-Some.entry.now in
    let q = subst (λ (l : LedgerView). pending_from n l.book.entries ≡ Some e) c.self.view_is (sym c.in-Some.ensures.value) in
    sym (scan_found (awaits a) (awaited_pends a) n c.args.self.now.book.entries e c.loop-entry.invariant.none q (sym c.awaits.ensures ∙ c.if-awaits.true))

pub loop-entry-smaller : goal.loop-entry-smaller
loop-entry-smaller c =
    let n = c.loop-entry.number in
    let e = c.in-Some.entry.now in
    let before : e.taken < c.args.self.now.book.taken = subst (λ (l : LedgerView). e.taken < l.book.taken) c.self.view_is c.in-Some.ensures.fit.before in
    let further : n ≤ e.taken = scan_further n c.self.inside.ledger.book.entries e (sym c.in-Some.ensures.value) in
    omega (arith, before, further)

pub loop-entry-preserved : goal.loop-entry-preserved
loop-entry-preserved c =
    let a = c.args.awaiting.now in
    let n = c.loop-entry.number in
    let e = c.in-Some.entry.now in
    let q = subst (λ (l : LedgerView). pending_from n l.book.entries ≡ Some e) c.self.view_is (sym c.in-Some.ensures.value) in
    let rises = subst (λ (l : LedgerView). TakenFrom 0 l.book.entries l.book.taken) c.self.view_is c.ledger_rules.ensures.book.rising in
    let before : e.taken < c.args.self.now.book.taken = subst (λ (l : LedgerView). e.taken < l.book.taken) c.self.view_is c.in-Some.ensures.fit.before in
    record {
      within = omega (arith, before);
      none = scan_on (awaits a) (awaited_pends a) n 0 c.args.self.now.book.taken c.args.self.now.book.entries e rises c.loop-entry.invariant.none q (sym c.awaits.ensures ∙ c.if-awaits.false);
    }

pub returns : goal.returns
returns c =
    let a = c.args.awaiting.now in
    let n = c.loop-entry.number in
    let q = subst (λ (l : LedgerView). pending_from n l.book.entries ≡ None) c.self.view_is (sym c.in_default.ensures.value) in
    sym (scan_none (awaits a) (awaited_pends a) n c.args.self.now.book.entries c.loop-entry.invariant.none q)
