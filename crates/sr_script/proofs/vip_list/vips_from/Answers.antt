use Rattle.std.proofs.Common.{length, length-append, ap, arith}
use Rattle.std.proofs.lemmas.Result.{err_from_is_err_and}
use Rattle.sr_script.specs.Spelled.{Address}
use Rattle.sr_script.proofs.Readings.{parts_more, parts_fails, parts_end}
use Rattle.sr_script.proofs.vip_list.vips_from.Goals as goal

pub returns-in_err-address-clause-value : goal.returns-in_err-address-clause-value
returns-in_err-address-clause-value c =
    let p = err_from_is_err_and c.from_residual.result c.from_residual.ensures.1 in
    rw (p.1, p.2) (parts_fails _ _ c.loop-value.addresses c.loop-value.pools.items c.loop-value.value-index c.args.values.now c.value-item.result _ c.loop-value-test.true c.value-item.is c.in_err-address.ensures c.loop-value.invariant.1)

pub loop-value-preserved : goal.loop-value-preserved
loop-value-preserved c = (
  omega (arith, ap length c.in_ok-push.ensures.ok, length-append {A = Address}),
  rw (c.in_ok-push.ensures.ok, c.in_ok-push-2.ensures.items)
      (parts_more _ _ c.loop-value.addresses c.loop-value.pools.items c.loop-value.value-index c.args.values.now c.value-item.result _ c.loop-value-test.true c.value-item.is c.in_ok-address.ensures c.loop-value.invariant.1),
)

pub returns-clause-value : goal.returns-clause-value
returns-clause-value c =
    rw c.into_list.ensures.items (parts_end _ _ c.loop-value.addresses c.loop-value.pools.items c.loop-value.value-index c.args.values.now (omega arith) c.loop-value.invariant.1)
