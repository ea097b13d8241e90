use Rattle.std.proofs.Common.{◌≡◌, length, get_or, ap, arith}
use Rattle.std.proofs.lemmas.List.{get_or_read}
use Rattle.sr_marks.proofs.Grouping.{before_more, entry-le}
use Rattle.sr_marks.proofs.level.Level.sum_between.Goals as goal

pub overflow_add-sum : goal.overflow_add-sum
overflow_add-sum c =
    let items = c.self.inside.counts.items in
    let view = c.self.view_is in
    let long = ap length view in
    let here = get_or_read items c.loop-at.at c.index.result.now (omega (arith, c.requires.within, c.loop-at-test.true)) c.index.ensures 0 in
    let same : get_or items c.loop-at.at 0 ≡ get_or c.args.self.now c.loop-at.at 0 = ap (λ xs. get_or xs c.loop-at.at 0) view in
    let most = entry-le c.args.self.now c.loop-at.at in
    let so_far = c.loop-at.invariant in
    omega (arith, c.requires.fits)

pub loop-at-preserved : goal.loop-at-preserved
loop-at-preserved c =
    let items = c.self.inside.counts.items in
    let view = c.self.view_is in
    let long = ap length view in
    let here = get_or_read items c.loop-at.at c.index.result.now (omega (arith, c.requires.within, c.loop-at-test.true)) c.index.ensures 0 in
    let same : get_or items c.loop-at.at 0 ≡ get_or c.args.self.now c.loop-at.at 0 = ap (λ xs. get_or xs c.loop-at.at 0) view in
    let more = before_more c.args.self.now c.loop-at.at in
    let so_far = c.loop-at.invariant in
    omega arith
