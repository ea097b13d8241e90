use Rattle.std.proofs.Common.{rules, ◌∙◌, ap, refl}
use Rattle.sr_acts.proofs.Stands.{stands_next}
use Rattle.sr_acts.specs.HeldController.{HeldController}
use Rattle.sr_acts.specs.contracts.controller_machine.ControllerMachine.{the_view}
use Rattle.sr_machine.specs.declared.job.Job.TheVariants as job
use Rattle.sr_acts.proofs.controller_machine.ControllerMachine.passed.Goals as goal

pub invariant_of-self : goal.invariant_of-self
invariant_of-self c =
    let i = c.self.inside in
    let n = c.self.invariant in
    let w = c.pass_job-self-inside in (
      n.0,
      n.1,
      n.2,
      n.3,
      n.4,
      n.5,
      w.ensures.fits,
      search rules,
      stands_next (the_view i) i.book c.ledger.result.now c.ledger.ensures c.ledger_rules.ensures.book refl c.args.x
          (job.Pass c.args.grace c.args.pipe c.args.wait.now) i.job w.result i.book.book.entries refl
          (ap (λ (h : HeldController). h.view.job) c.self.view_is ∙ c.requires.job) n.8 refl w.ensures.value,
    )
