use Rattle.std.proofs.Common.{rules, ◌∙◌, ap, subst, sym}
use Rattle.sr_acts.proofs.Stands.{stands_next}
use Rattle.sr_acts.specs.HeldController.{HeldController}
use Rattle.sr_machine.specs.declared.job.Job.TheVariants as job
use Rattle.sr_machine.specs.Config.{Config}
use Rattle.sr_machine.specs.Waiting.{drain_job}
use Rattle.sr_machine.specs.declared.controller_view.ControllerView.{ControllerView}
use Rattle.sr_shadow.specs.Ledger.{LedgerView}
use Rattle.sr_machine.specs.Taking.{ended_by, taking}
use Rattle.sr_standing.specs.Standing.{Standing}
use Rattle.sr_acts.proofs.controller_machine.ControllerMachine.drained.Goals as goal

pub take-requires-clause-stands : goal.take-requires-clause-stands
take-requires-clause-stands c =
    let h = c.args.self.now in
    let now = subst (λ (z : HeldController). Standing z.view.book.entries z.view.job) c.self.view_is c.self.invariant.8 in
    subst (λ o. Standing (taking h.config h.view o c.args.pipe c.args.x).book.entries h.view.job) (sym (c.ended_by.ensures c.args.pipe c.args.count))
    (subst (Standing (taking h.config h.view (ended_by (job.Drain c.args.pipe c.args.count c.args.wait.now)) c.args.pipe c.args.x).book.entries) (sym c.requires.job)
    (c.standings_are_kept.ensures.drained h.config h.view c.args.pipe c.args.count c.args.x c.args.wait.now (subst (Standing h.view.book.entries) c.requires.job now)))

pub invariant_of-self : goal.invariant_of-self
invariant_of-self c =
    let i = c.self.inside in
    let n = c.self.invariant in
    let m = c.self-2.invariant in
    let h = c.args.self.now in
    let d = c.drain_job-next in
    let l = c.ledger-2.result.now in
    let config = ap (λ (z : HeldController). z.config) c.self-2.view_is ∙ c.take.ensures.config in
    let vips = ap (λ (z : HeldController). z.view.vips) c.self-2.view_is ∙ ap (λ (v : ControllerView). v.vips) c.take.ensures.view in
    let entries = ap (λ (z : HeldController). z.view.book.entries) c.self-2.view_is
    ∙ (ap (λ (v : ControllerView). v.book.entries) c.take.ensures.view
    ∙ ap (λ o. (taking h.config h.view o c.args.pipe c.args.x).book.entries) (c.ended_by.ensures c.args.pipe c.args.count)) in (
      m.0,
      search rules,
      m.2,
      m.3,
      m.4,
      m.5,
      d.ensures.fits,
      search rules,
      stands_next h i.book c.ledger.result.now c.ledger.ensures c.ledger_rules.ensures.book (ap (λ (z : HeldController). z.view.book.entries) c.self.view_is) c.args.x
          (job.Drain c.args.pipe c.args.count c.args.wait.now) i.job d.result c.self-2.inside.book.book.entries (ap (λ (z : HeldController). z.view.job) c.self.view_is)
          c.requires.job n.8 entries
          (d.ensures.value ∙ (ap (λ (k : Config). drain_job k.layout c.self-2.inside.versions.vips l.book.entries c.args.pipe c.args.count c.args.wait.now c.args.x) config
          ∙ (ap (λ vs. drain_job h.config.layout vs l.book.entries c.args.pipe c.args.count c.args.wait.now c.args.x) vips
          ∙ ap (λ es. drain_job h.config.layout h.view.vips es c.args.pipe c.args.count c.args.wait.now c.args.x) (ap (λ (z : LedgerView). z.book.entries) c.ledger-2.ensures ∙ entries)))),
    )
