use Rattle.std.proofs.Common.{arith}
use Rattle.std.proofs.lemmas.Grind.{common_steps}
use Rattle.sr_shadow.proofs.Tables.{counted_few}
use Rattle.sr_shadow.proofs.version_counts.VersionCounts.join.Goals as goal

pub overflow_add-index_mut : goal.overflow_add-index_mut
overflow_add-index_mut c =
    let few = counted_few c.args.self.now c.args.entry.now.key.vip c.args.entry.now.version c.cell-at.ensures.vip c.cell-at.ensures.version c.requires in
    grind (arith, common_steps, few, c.self.view_is, c.self.invariant, c.index_mut.ensures.value, c.cell-at.ensures.value)
