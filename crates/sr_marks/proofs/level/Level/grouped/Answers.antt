use Rattle.std.proofs.Common.{arith}
use Rattle.sr_marks.proofs.Grouping.{groups_more, groups_all}
use Rattle.sr_marks.proofs.level.Level.grouped.Goals as goal

pub loop-group-preserved : goal.loop-group-preserved
loop-group-preserved c = groups_more c.args.self.now c.loop-group.counts.items _ c.loop-group.group _ c.sum_between.result (omega (arith, c.div_ceil-groups.ensures, c.loop-group-test.true, c.len.ensures)) c.loop-group.invariant (omega (arith, c.min.ensures, c.len-in-loop-group.ensures)) c.sum_between.ensures c.in_ok-push.ensures.items

pub returns : goal.returns
returns c = groups_all c.args.self.now _ c.loop-group.group (omega (arith, c.div_ceil-groups.ensures, c.loop-group-test.false, c.len.ensures)) c.loop-group.invariant
