use Rattle.std.proofs.Common.{◌∙◌, ap, subst, refl}
use Rattle.sr_base.specs.Layout.{LayoutView}
use Rattle.sr_base.specs.WordName.{HasPlace}
use Rattle.sr_acts.specs.HeldController.{HeldController}
use Rattle.sr_acts.proofs.Lists.{if_some}
use Rattle.sr_shadow.specs.Ledger.{LedgerView}
use Rattle.sr_acts.proofs.controller_machine.ControllerMachine.retire.Goals as goal

pub returns-clause-fits : goal.returns-clause-fits
returns-clause-fits c =
    let l = c.ledger.result.now in
    let e = c.in_ok-entry.entry.now in
    let place = c.in_ok-place.place in (
      subst (λ (l : LayoutView). HasPlace l.shape place) (ap (λ (l : LedgerView). l.layout) c.ledger.ensures ∙ (c.self.invariant.0 ∙ ap (λ (h : HeldController). h.config.layout) c.self.view_is))
          (if_some (HasPlace l.layout.shape) e.place place c.in_ok-entry.ensures.fit.stands c.in_ok-place.was),
      refl,
    )
