use Rattle.std.proofs.Common.{arith}
use Rattle.sr_marks.proofs.Tiering.{growing_none, growing_more, growing_all, growing_is}
use Rattle.sr_marks.proofs.tiers.Tiers.over.Goals as goal

pub loop-alloc-init : goal.loop-alloc-init
loop-alloc-init c = growing_none c.new-tiers.result.items c.args.lowest c.new-tiers.ensures.items

pub loop-alloc-smaller : goal.loop-alloc-smaller
loop-alloc-smaller c = omega (arith, c.in_ok-above.ensures.1, c.words.ensures.all)

pub loop-alloc-preserved : goal.loop-alloc-preserved
loop-alloc-preserved c = growing_more c.loop-alloc.tiers.items c.push.new.self.items c.loop-alloc.tier c.in_ok-above.above c.args.lowest c.loop-alloc.invariant c.in_ok-push.ensures.items c.in_ok-above.ensures.0

pub invariant_of-result : goal.invariant_of-result
invariant_of-result c = growing_all c.loop-alloc.tiers.items c.push-2.new.self.items c.loop-alloc.tier c.args.lowest c.loop-alloc.invariant c.in_ok-push-2.ensures.items (omega (arith, c.words.ensures.all))

pub returns : goal.returns
returns c = growing_is c.loop-alloc.tiers.items c.push-2.new.self.items c.loop-alloc.tier c.args.lowest c.loop-alloc.invariant c.in_ok-push-2.ensures.items
