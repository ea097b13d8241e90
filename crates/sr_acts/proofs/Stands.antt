-- The entries stand to the job after a step, as the code leaves both.
use Rattle.std.proofs.Common.{◌≡◌, ℕ, List, sym, ap, ◌∙◌, subst}
use Rattle.sr_acts.specs.HeldController.{HeldController}
use Rattle.sr_machine.specs.Jobs.{book_next, job_next}
use Rattle.sr_machine.specs.declared.job.Job.{Job}
use Rattle.sr_shadow.specs.Book.{DistinctKeys, HeldOnce, IsBook}
use Rattle.sr_shadow.specs.Ledger.{LedgerView}
use Rattle.sr_shadow.specs.declared.entry.Entry.{Entry}
use Rattle.sr_standing.proofs.StandingKept.{step_stands}
use Rattle.sr_standing.specs.Standing.{Standing}

-- what a controller knew, its book, and the ledger of it
module _ (h : HeldController) (b l : LedgerView) (same : l ≡ b) (book : IsBook l.book.entries l.book.taken) (entries : b.book.entries ≡ h.view.book.entries) where
  distinct : DistinctKeys h.view.book.entries
  distinct = subst DistinctKeys (ap (λ (z : LedgerView). z.book.entries) same ∙ entries) book.distinct

  once : HeldOnce h.view.book.entries
  once = subst HeldOnce (ap (λ (z : LedgerView). z.book.entries) same ∙ entries) book.once

  pub stands_next : (x : ℕ) (j i m : Job) (fs : List Entry) → i ≡ h.view.job → h.view.job ≡ j → Standing b.book.entries i
      → fs ≡ (book_next h.config h.view j x).entries → m ≡ job_next h.config h.view j x → Standing fs m
  stands_next x j i m fs set is s book_is job_is =
      let before : Standing h.view.book.entries j = subst (λ es. Standing es j) entries (subst (Standing b.book.entries) (set ∙ is) s) in
      let after = step_stands h.config h.view x distinct once j before in
      subst (λ es. Standing es m) (sym book_is) (subst (Standing (book_next h.config h.view j x).entries) (sym job_is) after)
