use Rattle.std.proofs.Common.{rules, ◌+◌, ◌∙◌, ap, refl}
use Rattle.sr_acts.proofs.Stands.{stands_next}
use Rattle.sr_acts.specs.HeldController.{HeldController}
use Rattle.sr_acts.specs.contracts.controller_machine.ControllerMachine.{the_view}
use Rattle.sr_machine.specs.declared.job.Job.TheVariants as job
use Rattle.sr_machine.specs.Draws.{sweeping}
use Rattle.sr_shadow.specs.Book.{with_swept}
use Rattle.sr_shadow.specs.Ledger.{LedgerView}
use Rattle.sr_shadow.specs.declared.book.Book.{Book}
use Rattle.sr_acts.proofs.controller_machine.ControllerMachine.hit.Goals as goal

pub invariant_of-self : goal.invariant_of-self
invariant_of-self c =
    let i = c.self.inside in
    let n = c.self.invariant in
    let w = c.sweeping-self-inside in
    let book = c.sweep.ensures.book ∙ ap (λ hit. with_swept c.args.key hit i.book.book) c.read_flag.ensures in (
      c.sweep.ensures.layout ∙ n.0,
      n.1,
      n.2,
      n.3,
      n.4,
      n.5,
      w.ensures.fits,
      search rules,
      stands_next (the_view i) i.book c.ledger.result.now c.ledger.ensures c.ledger_rules.ensures.book refl c.args.x
          (job.Hit c.args.from c.args.ms c.args.key c.args.place c.args.taken) i.job w.result c.sweep.new.self.book.entries refl
          (ap (λ (h : HeldController). h.view.job) c.self.view_is ∙ c.requires.job) n.8 (ap (λ (b : Book). b.entries) book)
          (w.ensures.value ∙ (ap (λ (l : LedgerView). sweeping l.book.entries c.args.from c.args.ms (c.args.taken + 1)) c.ledger-2.ensures ∙ ap (λ (b : Book). sweeping b.entries c.args.from c.args.ms (c.args.taken + 1)) book)),
    )
