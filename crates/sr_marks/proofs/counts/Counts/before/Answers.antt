use Rattle.std.proofs.Common.{length, ap, refl, arith}
use Rattle.sr_marks.specs.Counts.{total}
use Rattle.sr_marks.proofs.Levels.{total-level}
use Rattle.sr_marks.proofs.Walks.{level-read, levels-under, summing-le, summing_more, summing_all}
use Rattle.sr_marks.proofs.counts.Counts.before.Goals as goal

pub loop-level-preserved : goal.loop-level-preserved
loop-level-preserved c =
    let xs = c.args.self.now in
    let i = c.loop-level.level-index in
    let here = level-read c.self.inside.levels.items c.deref-level-items.result.now xs c.level-item.result i c.self.invariant c.self.view_is c.deref-level-items.ensures.value (omega arith) c.level-item.is in
    summing_more xs c.level-item.result c.args.at i c.loop-level.at c.loop-level.sum _ c.sum_between-sum.result c.loop-level.invariant here c.sum_between-sum.ensures refl

pub sum_between-sum-requires-clause-within : goal.sum_between-sum-requires-clause-within
sum_between-sum-requires-clause-within c =
    let xs = c.args.self.now in
    let i = c.loop-level.level-index in
    let here = ap length (level-read c.self.inside.levels.items c.deref-level-items.result.now xs c.level-item.result i c.self.invariant c.self.view_is c.deref-level-items.ensures.value (omega arith) c.level-item.is) in
    omega (arith, c.loop-level.invariant.within)

pub sum_between-sum-requires-clause-fits : goal.sum_between-sum-requires-clause-fits
sum_between-sum-requires-clause-fits c =
    let xs = c.args.self.now in
    let i = c.loop-level.level-index in
    let here = ap total (level-read c.self.inside.levels.items c.deref-level-items.result.now xs c.level-item.result i c.self.invariant c.self.view_is c.deref-level-items.ensures.value (omega arith) c.level-item.is) in
    omega (arith, total-level i xs, c.requires.fits)

pub overflow_add-sum : goal.overflow_add-sum
overflow_add-sum c =
    let xs = c.args.self.now in
    let i = c.loop-level.level-index in
    let here = level-read c.self.inside.levels.items c.deref-level-items.result.now xs c.level-item.result i c.self.invariant c.self.view_is c.deref-level-items.ensures.value (omega arith) c.level-item.is in
    omega (arith, summing-le xs c.level-item.result c.args.at i c.loop-level.at c.loop-level.sum c.sum_between-sum.result c.loop-level.invariant here c.sum_between-sum.ensures, c.requires.fits)

pub returns : goal.returns
returns c =
    let levels = c.self.inside.levels.items in
    summing_all levels c.args.self.now c.args.at c.loop-level.level-index c.loop-level.at c.loop-level.sum (levels-under levels c.args.self.now c.self.invariant c.self.view_is) (omega arith) c.loop-level.invariant
