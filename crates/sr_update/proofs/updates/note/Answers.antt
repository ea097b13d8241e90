use Rattle.std.proofs.Common.{arith, ◌∙◌}
use Rattle.sr_update.proofs.Dues.{pooled_few, noted}
use Rattle.sr_update.proofs.updates.note.Goals as goal

pub overflow_add-pool : goal.overflow_add-pool
overflow_add-pool c =
    let few = pooled_few c.args.pools.now.items c.in-Give.vip c.args.position c.index-pool.result.now (omega arith) c.index-pool.ensures c.requires (omega (arith, c.ranges.position)) in
    omega arith

pub returns-in_ok-push-in-Give : goal.returns-in_ok-push-in-Give
returns-in_ok-push-in-Give c = λ before p size.
    let h = noted c.args.pools.now.items c.args.gives.now.items before c.args.change.now c.in-Give.vip c.index-pool.result.now c.args.position c.in-Give.pool c.in-Give.is (omega arith)
    c.index-pool.ensures p size in
    (c.in_ok-push-in-Give.ensures.items ∙ h.0, h.1)
