use Rattle.std.proofs.Common.{rules, ◌∙◌, ap, sym}
use Rattle.sr_acts.proofs.Stands.{stands_next}
use Rattle.sr_acts.specs.HeldController.{HeldController}
use Rattle.sr_machine.specs.declared.job.Job.TheVariants as job
use Rattle.sr_machine.specs.Jobs.{book_next}
use Rattle.sr_shadow.specs.Book.{without_key}
use Rattle.sr_shadow.specs.declared.book.Book.{Book}
use Rattle.sr_acts.proofs.controller_machine.ControllerMachine.drew.Goals as goal

pub invariant_of-self-in-Answer : goal.invariant_of-self-in-Answer
invariant_of-self-in-Answer c =
    let i = c.self.inside in
    let n = c.self.invariant in
    let h = c.args.self.now in
    let entries = ap (λ (z : HeldController). z.view.book.entries) c.self.view_is in (
      search rules,
      search rules,
      search rules,
      search rules,
      search rules,
      search rules,
      search rules,
      search rules,
      stands_next h i.book c.ledger.result.now c.ledger.ensures c.ledger_rules.ensures.book entries c.args.tick
          (job.Draw c.args.draw.now) i.job (c.draw_job-next.result) i.book.book.entries (ap (λ (z : HeldController). z.view.job) c.self.view_is)
          c.requires.job n.8 (entries ∙ sym (ap (λ d. (book_next h.config h.view (job.Draw d) c.args.tick).entries) c.in-Answer.is)) (c.draw_job-next.ensures.value),
    )

pub invariant_of-self-in-Swept : goal.invariant_of-self-in-Swept
invariant_of-self-in-Swept c =
    let i = c.self.inside in
    let n = c.self.invariant in
    let h = c.args.self.now in
    let entries = ap (λ (z : HeldController). z.view.book.entries) c.self.view_is in (
      search rules,
      search rules,
      search rules,
      search rules,
      search rules,
      search rules,
      search rules,
      search rules,
      stands_next h i.book c.ledger.result.now c.ledger.ensures c.ledger_rules.ensures.book entries c.args.tick
          (job.Draw c.args.draw.now) i.job (c.draw_job-next.result) i.book.book.entries (ap (λ (z : HeldController). z.view.job) c.self.view_is)
          c.requires.job n.8 (entries ∙ sym (ap (λ d. (book_next h.config h.view (job.Draw d) c.args.tick).entries) c.in-Swept.is)) (c.draw_job-next.ensures.value),
    )

pub invariant_of-self-in-Grace : goal.invariant_of-self-in-Grace
invariant_of-self-in-Grace c =
    let i = c.self.inside in
    let n = c.self.invariant in
    let h = c.args.self.now in
    let entries = ap (λ (z : HeldController). z.view.book.entries) c.self.view_is in (
      search rules,
      search rules,
      search rules,
      search rules,
      search rules,
      search rules,
      search rules,
      search rules,
      stands_next h i.book c.ledger.result.now c.ledger.ensures c.ledger_rules.ensures.book entries c.args.tick
          (job.Draw c.args.draw.now) i.job (c.draw_job-next.result) i.book.book.entries (ap (λ (z : HeldController). z.view.job) c.self.view_is)
          c.requires.job n.8 (entries ∙ sym (ap (λ d. (book_next h.config h.view (job.Draw d) c.args.tick).entries) c.in-Grace.is)) (c.draw_job-next.ensures.value),
    )

pub invariant_of-self-in-Refused : goal.invariant_of-self-in-Refused
invariant_of-self-in-Refused c =
    let i = c.self.inside in
    let n = c.self.invariant in
    let h = c.args.self.now in
    let entries = ap (λ (z : HeldController). z.view.book.entries) c.self.view_is in (
      search rules,
      search rules,
      search rules,
      search rules,
      search rules,
      search rules,
      search rules,
      search rules,
      stands_next h i.book c.ledger.result.now c.ledger.ensures c.ledger_rules.ensures.book entries c.args.tick
          (job.Draw c.args.draw.now) i.job (c.draw_job-next.result) i.book.book.entries (ap (λ (z : HeldController). z.view.job) c.self.view_is)
          c.requires.job n.8 (entries ∙ sym (ap (λ d. (book_next h.config h.view (job.Draw d) c.args.tick).entries) c.in-Refused.is)) (c.draw_job-next.ensures.value),
    )

pub invariant_of-self-in-Comes : goal.invariant_of-self-in-Comes
invariant_of-self-in-Comes c =
    let i = c.self.inside in
    let n = c.self.invariant in
    let h = c.args.self.now in
    let entries = ap (λ (z : HeldController). z.view.book.entries) c.self.view_is in (
      search rules,
      search rules,
      search rules,
      search rules,
      search rules,
      search rules,
      search rules,
      search rules,
      stands_next h i.book c.ledger.result.now c.ledger.ensures c.ledger_rules.ensures.book entries c.args.tick
          (job.Draw c.args.draw.now) i.job (c.draw_job-next.result) i.book.book.entries (ap (λ (z : HeldController). z.view.job) c.self.view_is)
          c.requires.job n.8 (entries ∙ sym (ap (λ d. (book_next h.config h.view (job.Draw d) c.args.tick).entries) c.in-Comes.is)) (c.draw_job-next.ensures.value),
    )

pub invariant_of-self-in-Reserved : goal.invariant_of-self-in-Reserved
invariant_of-self-in-Reserved c =
    let i = c.self.inside in
    let n = c.self.invariant in
    let h = c.args.self.now in
    let entries = ap (λ (z : HeldController). z.view.book.entries) c.self.view_is in (
      search rules,
      search rules,
      search rules,
      search rules,
      search rules,
      search rules,
      search rules,
      search rules,
      stands_next h i.book c.ledger.result.now c.ledger.ensures c.ledger_rules.ensures.book entries c.args.tick
          (job.Draw c.args.draw.now) i.job (c.draw_job-next.result) i.book.book.entries (ap (λ (z : HeldController). z.view.job) c.self.view_is)
          c.requires.job n.8 (entries ∙ sym (ap (λ d. (book_next h.config h.view (job.Draw d) c.args.tick).entries) c.in-Reserved.is)) (c.draw_job-next.ensures.value),
    )

pub invariant_of-self-in-Placed : goal.invariant_of-self-in-Placed
invariant_of-self-in-Placed c =
    let i = c.self.inside in
    let n = c.self.invariant in
    let h = c.args.self.now in
    let entries = ap (λ (z : HeldController). z.view.book.entries) c.self.view_is in (
      search rules,
      search rules,
      search rules,
      search rules,
      search rules,
      search rules,
      search rules,
      search rules,
      stands_next h i.book c.ledger.result.now c.ledger.ensures c.ledger_rules.ensures.book entries c.args.tick
          (job.Draw c.args.draw.now) i.job (c.draw_job-next.result) i.book.book.entries (ap (λ (z : HeldController). z.view.job) c.self.view_is)
          c.requires.job n.8 (entries ∙ sym (ap (λ d. (book_next h.config h.view (job.Draw d) c.args.tick).entries) c.in-Placed.is)) (c.draw_job-next.ensures.value),
    )

pub invariant_of-self-in-Cleared : goal.invariant_of-self-in-Cleared
invariant_of-self-in-Cleared c =
    let i = c.self.inside in
    let n = c.self.invariant in
    let h = c.args.self.now in
    let entries = ap (λ (z : HeldController). z.view.book.entries) c.self.view_is in (
      search rules,
      search rules,
      search rules,
      search rules,
      search rules,
      search rules,
      search rules,
      search rules,
      stands_next h i.book c.ledger.result.now c.ledger.ensures c.ledger_rules.ensures.book entries c.args.tick
          (job.Draw c.args.draw.now) i.job (c.draw_job-next.result) i.book.book.entries (ap (λ (z : HeldController). z.view.job) c.self.view_is)
          c.requires.job n.8 (entries ∙ sym (ap (λ d. (book_next h.config h.view (job.Draw d) c.args.tick).entries) c.in-Cleared.is)) (c.draw_job-next.ensures.value),
    )

pub invariant_of-self-in-From : goal.invariant_of-self-in-From
invariant_of-self-in-From c =
    let i = c.self.inside in
    let n = c.self.invariant in
    let h = c.args.self.now in
    let entries = ap (λ (z : HeldController). z.view.book.entries) c.self.view_is in (
      search rules,
      search rules,
      search rules,
      search rules,
      search rules,
      search rules,
      search rules,
      search rules,
      stands_next h i.book c.ledger.result.now c.ledger.ensures c.ledger_rules.ensures.book entries c.args.tick
          (job.Draw c.args.draw.now) i.job (c.draw_job-next.result) i.book.book.entries (ap (λ (z : HeldController). z.view.job) c.self.view_is)
          c.requires.job n.8 (entries ∙ sym (ap (λ d. (book_next h.config h.view (job.Draw d) c.args.tick).entries) c.in-From.is)) (c.draw_job-next.ensures.value),
    )

pub invariant_of-self-in-Retired : goal.invariant_of-self-in-Retired
invariant_of-self-in-Retired c =
    let i = c.self.inside in
    let n = c.self.invariant in
    let h = c.args.self.now in
    let entries = ap (λ (z : HeldController). z.view.book.entries) c.self.view_is in (
      search rules,
      search rules,
      search rules,
      search rules,
      search rules,
      search rules,
      search rules,
      search rules,
      stands_next h i.book c.ledger.result.now c.ledger.ensures c.ledger_rules.ensures.book entries c.args.tick
          (job.Draw c.args.draw.now) i.job (c.draw_job-next.result) c.retire.new.self.book.entries (ap (λ (z : HeldController). z.view.job) c.self.view_is)
          c.requires.job n.8 (ap (λ (b : Book). b.entries) c.retire.ensures.book ∙ (ap (without_key c.in-Retired.key) entries ∙ sym (ap (λ d. (book_next h.config h.view (job.Draw d) c.args.tick).entries) c.in-Retired.is))) (c.draw_job-next.ensures.value),
    )
