use Rattle.std.proofs.Common.{length, length-append, ap, arith}
use Rattle.std.proofs.lemmas.Result.{err_from_is_err_and}
use Rattle.sr_script.specs.Spelled.{Address}
use Rattle.sr_script.specs.Walk.{server_in}
use Rattle.sr_script.proofs.Readings.{each_more, each_fails, each_ends}
use Rattle.sr_script.proofs.servers.servers_from.Goals as goal

pub returns-in_err-server-clause-value : goal.returns-in_err-server-clause-value
returns-in_err-server-clause-value c =
    let p = err_from_is_err_and c.from_residual.result c.from_residual.ensures.1 in
    rw (p.1, p.2) (each_fails server_in c.loop-value.servers c.args.values.now c.loop-value.value-index c.value-item.result _ _ c.loop-value-test.true c.value-item.is c.in_err-server.ensures c.loop-value.invariant.1)

pub loop-value-preserved : goal.loop-value-preserved
loop-value-preserved c = (
  omega (arith, ap length c.in_ok-push.ensures.ok, length-append {A = Address}),
  rw c.in_ok-push.ensures.ok
      (each_more server_in c.loop-value.servers c.args.values.now c.loop-value.value-index c.value-item.result _ _ c.loop-value-test.true c.value-item.is c.in_ok-server.ensures c.loop-value.invariant.1),
)

pub returns-clause-value : goal.returns-clause-value
returns-clause-value c =
    rw c.into_list.ensures.items (each_ends server_in c.loop-value.servers c.args.values.now c.loop-value.value-index _ (omega arith) c.loop-value.invariant.1)
