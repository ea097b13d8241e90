use Rattle.std.proofs.Common.{◌≤◌, ◌∙◌, sym, ap, subst, arith}
use Rattle.std.specs.Prelude.{option_map}
use Rattle.sr_law.specs.Pools.{pool_of}
use Rattle.sr_acts.specs.HeldController.{HeldController}
use Rattle.sr_acts.proofs.Pools.{pool_fits}
use Rattle.sr_acts.proofs.controller_machine.ControllerMachine.pool_size.Goals as goal

pub returns-clause-most : goal.returns-clause-most
returns-clause-most c =
    let k = c.self.inside.config in
    let u = c.args.update.now in
    let e = ap (λ ps. pool_of ps u.vip u.pool) (sym c.pools.ensures) ∙ sym c.of.ensures ∙ ap (option_map (λ p. p.now)) c.in-Some.is in
    let m : c.size.result ≤ k.layout.shape.pool_max = omega (arith, (pool_fits k u.vip u.pool c.in-Some.pool.now c.fits.ensures e).most, c.size.ensures.value) in
    subst (λ (h : HeldController). c.size.result ≤ h.config.layout.shape.pool_max) c.self.view_is m
