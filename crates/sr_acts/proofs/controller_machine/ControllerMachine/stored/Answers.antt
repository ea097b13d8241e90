use Rattle.std.proofs.Common.{◌≡◌, sym, subst}
use Rattle.sr_machine.specs.Jobs.{job_after}
use Rattle.sr_machine.specs.declared.job.Job.TheVariants as job
use Rattle.sr_machine.specs.declared.store.Store.{Store}
use Rattle.std.proofs.Common.{rules, ◌∙◌, ap}
use Rattle.sr_acts.proofs.Stands.{stands_next}
use Rattle.sr_acts.specs.HeldController.{HeldController}
use Rattle.sr_machine.specs.Jobs.{book_next, job_next}
use Rattle.sr_machine.specs.declared.draw.Draw.TheVariants as draw
use Rattle.sr_machine.specs.declared.wait.Wait.TheVariants as wait
use Rattle.sr_shadow.specs.Book.{with_changed}
use Rattle.sr_shadow.specs.Entry.{left_other}
use Rattle.sr_shadow.specs.declared.book.Book.{Book}
use Rattle.sr_acts.proofs.controller_machine.ControllerMachine.stored.Goals as goal

pub returns-in-Filter-clause-view : goal.returns-in-Filter-clause-view
returns-in-Filter-clause-view c = λ x.
    subst (λ (s : Store). c.cleared.new.self.view ≡ job_after c.args.self.now.config c.args.self.now.view (job.Store s) x)
    (sym c.in-Filter.is) (c.cleared.ensures.view x)

pub returns-in-Judge-clause-view : goal.returns-in-Judge-clause-view
returns-in-Judge-clause-view c = λ x.
    subst (λ (s : Store). c.judged.new.self.view ≡ job_after c.args.self.now.config c.args.self.now.view (job.Store s) x)
    (sym c.in-Judge.is) (c.judged.ensures.view x)

pub invariant_of-self-in-Vip : goal.invariant_of-self-in-Vip
invariant_of-self-in-Vip c =
    let i = c.self.inside in
    let n = c.self.invariant in
    let h = c.args.self.now in
    let entries = ap (λ (z : HeldController). z.view.book.entries) c.self.view_is in (
      search rules,
      search rules,
      search rules,
      search rules,
      search rules,
      search rules,
      search rules,
      search rules,
      stands_next h i.book c.ledger.result.now c.ledger.ensures c.ledger_rules.ensures.book entries 0
          (job.Store c.args.store.now) i.job (job.Draw c.vip_draw.result) i.book.book.entries (ap (λ (z : HeldController). z.view.job) c.self.view_is)
          c.requires.job n.8 (entries ∙ sym (ap (λ s. (book_next h.config h.view (job.Store s) 0).entries) c.in-Vip.is)) (ap job.Draw c.vip_draw.ensures ∙ sym (ap (λ s. job_next h.config h.view (job.Store s) 0) c.in-Vip.is)),
    )

pub invariant_of-self-in-Reserved : goal.invariant_of-self-in-Reserved
invariant_of-self-in-Reserved c =
    let i = c.self.inside in
    let n = c.self.invariant in
    let h = c.args.self.now in
    let entries = ap (λ (z : HeldController). z.view.book.entries) c.self.view_is in (
      search rules,
      search rules,
      search rules,
      search rules,
      search rules,
      search rules,
      search rules,
      search rules,
      stands_next h i.book c.ledger.result.now c.ledger.ensures c.ledger_rules.ensures.book entries 0
          (job.Store c.args.store.now) i.job (job.Draw (draw.Grace (wait.Judge c.in-Reserved.put))) i.book.book.entries (ap (λ (z : HeldController). z.view.job) c.self.view_is)
          c.requires.job n.8 (entries ∙ sym (ap (λ s. (book_next h.config h.view (job.Store s) 0).entries) c.in-Reserved.is)) (sym (ap (λ s. job_next h.config h.view (job.Store s) 0) c.in-Reserved.is)),
    )

pub invariant_of-self-in-Empty : goal.invariant_of-self-in-Empty
invariant_of-self-in-Empty c =
    let i = c.self.inside in
    let n = c.self.invariant in
    let h = c.args.self.now in
    let entries = ap (λ (z : HeldController). z.view.book.entries) c.self.view_is in (
      search rules,
      search rules,
      search rules,
      search rules,
      search rules,
      search rules,
      search rules,
      search rules,
      stands_next h i.book c.ledger.result.now c.ledger.ensures c.ledger_rules.ensures.book entries 0
          (job.Store c.args.store.now) i.job (job.Draw (draw.Cleared c.in-Empty.key c.in-Empty.place c.in-Empty.why)) c.leave.new.self.book.entries (ap (λ (z : HeldController). z.view.job) c.self.view_is)
          c.requires.job n.8 (ap (λ (b : Book). b.entries) c.leave.ensures.book ∙ (ap (with_changed left_other c.in-Empty.key) entries ∙ sym (ap (λ s. (book_next h.config h.view (job.Store s) 0).entries) c.in-Empty.is))) (sym (ap (λ s. job_next h.config h.view (job.Store s) 0) c.in-Empty.is)),
    )
