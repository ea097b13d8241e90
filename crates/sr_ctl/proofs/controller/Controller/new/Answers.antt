use Rattle.std.proofs.Common.{◌≤◌, ◌∙◌, sym, ap, subst, arith}
use Rattle.sr_ctl.proofs.Telling.{opening_free}
use Rattle.sr_ctl.specs.Needs.{is_look, kept}
use Rattle.sr_machine.specs.declared.controller_view.ControllerView.{ControllerView}
use Rattle.sr_machine.specs.declared.job.Job.{Job}
use Rattle.sr_ctl.proofs.controller.Controller.new.Goals as goal

pub invariant_of-result : goal.invariant_of-result
invariant_of-result c =
    let free = ap (λ (v : ControllerView). v.job) c.in_ok-machine.ensures.view ∙ opening_free c.args.config in
    (ap is_look free, subst (λ (j : Job). kept j ≤ c.in_ok-machine.machine.room) (sym free) (omega arith))
