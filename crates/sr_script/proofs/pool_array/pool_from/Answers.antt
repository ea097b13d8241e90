use Rattle.std.proofs.Common.{arith}
use Rattle.std.proofs.lemmas.Result.{err_from_is_err_and}
use Rattle.sr_script.specs.Walk.{member_in}
use Rattle.sr_script.proofs.Readings.{each_more, each_fails, each_ends}
use Rattle.sr_script.proofs.pool_array.pool_from.Goals as goal

pub returns-in_err-server : goal.returns-in_err-server
returns-in_err-server c =
    let p = err_from_is_err_and c.from_residual.result c.from_residual.ensures.1 in
    let fails = rw c.deref.ensures.value at c.in_err-server.ensures in
    rw (p.1, p.2) (each_fails (member_in c.args.section c.args.servers) c.loop-value.members.items c.args.values.now c.loop-value.value-index c.value-item.result _ _ c.loop-value-test.true c.value-item.is fails c.loop-value.invariant.1)

pub loop-value-preserved : goal.loop-value-preserved
loop-value-preserved c =
    let reads = rw c.deref.ensures.value at c.in_ok-server.ensures in (
      omega (arith, c.in_ok-push.ensures.len),
      rw c.in_ok-push.ensures.items
          (each_more (member_in c.args.section c.args.servers) c.loop-value.members.items c.args.values.now c.loop-value.value-index c.value-item.result _ _ c.loop-value-test.true c.value-item.is reads c.loop-value.invariant.1),
    )

pub returns : goal.returns
returns c =
    rw c.in-Some.ensures.servers (each_ends (member_in c.args.section c.args.servers) c.loop-value.members.items c.args.values.now c.loop-value.value-index _ (omega arith) c.loop-value.invariant.1)
