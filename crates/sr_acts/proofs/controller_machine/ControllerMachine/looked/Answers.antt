use Rattle.std.proofs.Common.{rules, ◌∙◌, ap, subst, sym}
use Rattle.sr_acts.proofs.Stands.{stands_next}
use Rattle.sr_acts.specs.HeldController.{HeldController}
use Rattle.sr_machine.specs.declared.job.Job.TheVariants as job
use Rattle.std.proofs.Common.{None}
use Rattle.sr_machine.specs.Config.{Config}
use Rattle.sr_machine.specs.Waiting.{look_job}
use Rattle.sr_machine.specs.declared.controller_view.ControllerView.{ControllerView}
use Rattle.sr_machine.specs.Taking.{taking}
use Rattle.sr_standing.specs.Standing.{Standing}
use Rattle.sr_acts.proofs.controller_machine.ControllerMachine.looked.Goals as goal

pub take-requires-clause-stands : goal.take-requires-clause-stands
take-requires-clause-stands c =
    let h = c.args.self.now in
    let now = subst (λ (z : HeldController). Standing z.view.book.entries z.view.job) c.self.view_is c.self.invariant.8 in
    subst (Standing (taking h.config h.view None c.args.pipe c.args.x).book.entries) (sym c.requires.job)
    (c.standings_are_kept.ensures.looked h.config h.view c.args.pipe c.args.pipe c.args.x (subst (Standing h.view.book.entries) c.requires.job now))

pub invariant_of-self : goal.invariant_of-self
invariant_of-self c =
    let i = c.self.inside in
    let n = c.self.invariant in
    let m = c.self-2.invariant in
    let h = c.args.self.now in
    let w = c.look_job-self-inside in
    let config = ap (λ (z : HeldController). z.config) c.self-2.view_is ∙ c.take.ensures.config in (
      m.0,
      m.1,
      m.2,
      m.3,
      m.4,
      m.5,
      w.ensures.fits,
      search rules,
      stands_next h i.book c.ledger.result.now c.ledger.ensures c.ledger_rules.ensures.book (ap (λ (z : HeldController). z.view.book.entries) c.self.view_is) c.args.x
          (job.Look c.args.pipe) i.job w.result c.self-2.inside.book.book.entries (ap (λ (z : HeldController). z.view.job) c.self.view_is)
          c.requires.job n.8 (ap (λ (z : HeldController). z.view.book.entries) c.self-2.view_is ∙ ap (λ (v : ControllerView). v.book.entries) c.take.ensures.view)
          (w.ensures.value ∙ ap (λ (k : Config). look_job k.layout c.args.pipe c.args.x) config),
    )
