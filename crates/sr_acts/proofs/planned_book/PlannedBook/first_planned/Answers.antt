use Rattle.std.proofs.Common.{◌≡◌, ◌<◌, ◌≤◌, ◌∙◌, is_some, Some, None, ap, sym, subst, arith}
use Rattle.sr_acts.proofs.Asked.{found_pending, found_unplaced, put_of_found, put_pends}
use Rattle.sr_acts.proofs.Scans.{scan_found, scan_further, scan_none, scan_on}
use Rattle.sr_acts.specs.Pending.{has_put}
use Rattle.sr_shadow.specs.Book.{DistinctKeys, TakenFrom, pending_from}
use Rattle.sr_shadow.specs.Ledger.{LedgerView}
use Rattle.sr_acts.proofs.planned_book.PlannedBook.first_planned.Goals as goal

pub planned_put-requires-clause-unplaced : goal.planned_put-requires-clause-unplaced
planned_put-requires-clause-unplaced c =
    let s = c.args.self.now.layout.shape in
    let es = c.args.self.now.book.entries in
    let n = c.loop-entry.number in
    let e = c.in-Some.entry.now in
    let q : pending_from n es ≡ Some e = subst (λ (l : LedgerView). pending_from n l.book.entries ≡ Some e) c.self.view_is (sym c.in-Some.ensures.value) in
    let d = subst (λ (l : LedgerView). DistinctKeys l.book.entries) c.self.view_is c.ledger_rules.ensures.book.distinct in
    found_unplaced n es e d q

pub returns-then-is_some-clause-value : goal.returns-then-is_some-clause-value
returns-then-is_some-clause-value c =
    let s = c.args.self.now.layout.shape in
    let es = c.args.self.now.book.entries in
    let n = c.loop-entry.number in
    let e = c.in-Some.entry.now in
    let q : pending_from n es ≡ Some e = subst (λ (l : LedgerView). pending_from n l.book.entries ≡ Some e) c.self.view_is (sym c.in-Some.ensures.value) in
    let has = ap is_some (put_of_found s es e (found_pending n es e q)) ∙ (ap is_some (sym c.planned_put.ensures.value) ∙ (sym c.is_some.ensures ∙ c.if-is_some.true)) in
    sym (scan_found (has_put s es) (put_pends s es) n es e c.loop-entry.invariant.none q has)

pub returns-then-is_some-clause-pending : goal.returns-then-is_some-clause-pending
returns-then-is_some-clause-pending c =
    let s = c.args.self.now.layout.shape in
    let es = c.args.self.now.book.entries in
    let n = c.loop-entry.number in
    let e = c.in-Some.entry.now in
    let q : pending_from n es ≡ Some e = subst (λ (l : LedgerView). pending_from n l.book.entries ≡ Some e) c.self.view_is (sym c.in-Some.ensures.value) in
    found_pending n es e q

pub returns-then-is_some-clause-unplaced : goal.returns-then-is_some-clause-unplaced
returns-then-is_some-clause-unplaced c =
    let s = c.args.self.now.layout.shape in
    let es = c.args.self.now.book.entries in
    let n = c.loop-entry.number in
    let e = c.in-Some.entry.now in
    let q : pending_from n es ≡ Some e = subst (λ (l : LedgerView). pending_from n l.book.entries ≡ Some e) c.self.view_is (sym c.in-Some.ensures.value) in
    let d = subst (λ (l : LedgerView). DistinctKeys l.book.entries) c.self.view_is c.ledger_rules.ensures.book.distinct in
    found_unplaced n es e d q

pub loop-entry-smaller : goal.loop-entry-smaller
loop-entry-smaller c =
    let n = c.loop-entry.number in
    let e = c.in-Some.entry.now in
    let before : e.taken < c.args.self.now.book.taken = subst (λ (l : LedgerView). e.taken < l.book.taken) c.self.view_is c.in-Some.ensures.fit.before in
    let further : n ≤ e.taken = scan_further n c.self.inside.ledger.book.entries e (sym c.in-Some.ensures.value) in
    omega (arith, before, further)

pub loop-entry-preserved : goal.loop-entry-preserved
loop-entry-preserved c =
    let s = c.args.self.now.layout.shape in
    let es = c.args.self.now.book.entries in
    let n = c.loop-entry.number in
    let e = c.in-Some.entry.now in
    let q : pending_from n es ≡ Some e = subst (λ (l : LedgerView). pending_from n l.book.entries ≡ Some e) c.self.view_is (sym c.in-Some.ensures.value) in
    let has = ap is_some (put_of_found s es e (found_pending n es e q)) ∙ (ap is_some (sym c.planned_put.ensures.value) ∙ (sym c.is_some.ensures ∙ c.if-is_some.false)) in
    let rises = subst (λ (l : LedgerView). TakenFrom 0 l.book.entries l.book.taken) c.self.view_is c.ledger_rules.ensures.book.rising in
    let before : e.taken < c.args.self.now.book.taken = subst (λ (l : LedgerView). e.taken < l.book.taken) c.self.view_is c.in-Some.ensures.fit.before in
    record {
      within = omega (arith, before);
      none = scan_on (has_put s es) (put_pends s es) n 0 c.args.self.now.book.taken es e rises c.loop-entry.invariant.none q has;
    }

pub returns-clause-value : goal.returns-clause-value
returns-clause-value c =
    let s = c.args.self.now.layout.shape in
    let es = c.args.self.now.book.entries in
    let n = c.loop-entry.number in
    let q = subst (λ (l : LedgerView). pending_from n l.book.entries ≡ None) c.self.view_is (sym c.in_default.ensures.value) in
    sym (scan_none (has_put s es) (put_pends s es) n es c.loop-entry.invariant.none q)
