use Rattle.std.proofs.Common.{length, ap, arith}
use Rattle.sr_marks.specs.Counts.{total}
use Rattle.sr_marks.proofs.Grouping.{length-groups}
use Rattle.sr_marks.proofs.Levels.{total-level}
use Rattle.sr_marks.proofs.Walks.{growing_none, growing_more, growing_all, growing_is}
use Rattle.sr_marks.proofs.counts.Counts.over.Goals as goal

pub loop-alloc-init : goal.loop-alloc-init
loop-alloc-init c = rw c.new-levels.ensures.items (growing_none c.args.lowest)

pub grouped-requires : goal.grouped-requires
grouped-requires c =
    let same = ap total c.loop-alloc.invariant.next in
    omega (arith, total-level (length c.loop-alloc.levels.items) c.args.lowest)

pub loop-alloc-smaller : goal.loop-alloc-smaller
loop-alloc-smaller c =
    let grouped = ap length c.in_ok-above.ensures in
    omega (arith, length-groups c.loop-alloc.level, c.len.ensures)

pub loop-alloc-preserved : goal.loop-alloc-preserved
loop-alloc-preserved c =
    growing_more c.loop-alloc.levels.items _ c.loop-alloc.level _ c.args.lowest c.loop-alloc.invariant c.in_ok-push.ensures.items c.in_ok-above.ensures

pub invariant_of-result : goal.invariant_of-result
invariant_of-result c =
    let is = growing_is c.loop-alloc.levels.items _ c.loop-alloc.level c.args.lowest c.loop-alloc.invariant c.in_ok-push-2.ensures.items in
    rw is (growing_all c.loop-alloc.levels.items _ c.loop-alloc.level c.args.lowest c.loop-alloc.invariant (omega arith) c.in_ok-push-2.ensures.items)

pub returns : goal.returns
returns c =
    growing_is c.loop-alloc.levels.items _ c.loop-alloc.level c.args.lowest c.loop-alloc.invariant c.in_ok-push-2.ensures.items
