use Rattle.std.proofs.Common.{rules, ◌∙◌, ap, refl, subst, sym, false}
use Rattle.sr_acts.proofs.Stands.{stands_next}
use Rattle.sr_acts.specs.HeldController.{HeldController}
use Rattle.sr_acts.specs.contracts.controller_machine.ControllerMachine.{the_view}
use Rattle.sr_machine.specs.declared.job.Job.TheVariants as job
use Rattle.sr_machine.specs.Deciding.{dead_reply, is_withdrawn, version_for}
use Rattle.sr_machine.specs.Jobs.{judged_book}
use Rattle.sr_machine.specs.Stores.{judged_draw}
use Rattle.sr_machine.specs.declared.draw.Draw.TheVariants as draw
use Rattle.sr_machine.specs.declared.store.Store.TheVariants as store
use Rattle.sr_shadow.specs.Book.{with_settled, with_taken}
use Rattle.sr_shadow.specs.Ledger.{LedgerView}
use Rattle.sr_shadow.specs.declared.book.Book.{Book}
use Rattle.std.proofs.Common.{◌≡◌}
use Rattle.sr_acts.proofs.controller_machine.ControllerMachine.judged.Goals as goal

pub invariant_of-self-else-is_withdrawn : goal.invariant_of-self-else-is_withdrawn
invariant_of-self-else-is_withdrawn c =
    let i = c.self.inside in
    let n = c.self.invariant in
    let p = c.args.put.now in
    let v = version_for i.versions.vips i.book.book.entries p.key in
    let live : is_withdrawn i.config (the_view i).view p ≡ false =
    sym (subst (λ (z : HeldController). c.is_withdrawn.result ≡ is_withdrawn z.config z.view p) (sym c.self.view_is) c.is_withdrawn.ensures) ∙ c.if-is_withdrawn.false in
    let version : c.version_for-version.result ≡ v = c.version_for-version.ensures ∙ ap (λ (l : LedgerView). version_for i.versions.vips l.book.entries p.key) c.ledger-else-is_withdrawn.ensures in
    let book : c.settle.new.self.book ≡ with_settled p.key p.place (with_taken p.key v i.book.book) =
    c.settle.ensures.book ∙ ap (with_settled p.key p.place) (c.take.ensures.book ∙ ap (λ u. with_taken p.key u i.book.book) version) in (
      search rules,
      n.1,
      n.2,
      n.3,
      n.4,
      n.5,
      search rules,
      search rules,
      stands_next (the_view i) i.book c.ledger.result.now c.ledger.ensures c.ledger_rules.ensures.book refl 0
          (job.Store (store.Judge p)) i.job (job.Draw (draw.Placed p)) c.settle.new.self.book.entries refl
          (ap (λ (h : HeldController). h.view.job) c.self.view_is ∙ c.requires.job) n.8
          (ap (λ (b : Book). b.entries) book ∙ sym (ap (λ w. (judged_book w p v i.book.book).entries) live))
          (sym (ap (λ w. job.Draw (judged_draw w p (dead_reply i.config (the_view i).view p.aim))) live)),
    )
