use Rattle.std.proofs.Common.{◌≡◌, ◌+◌, ◌-◌, refl, subst, arith, rules}
use Rattle.sr_marks.proofs.Walks.{Finding, level-read, levels-under, finding_none, finding-within, finding-fits, finding_down, finding_all}
use Rattle.sr_marks.proofs.counts.Counts.find.Goals as goal

pub loop-i-init : goal.loop-i-init
loop-i-init c =
    let levels = c.self.inside.levels.items in
    finding_none levels c.args.self.now c.args.n _ (levels-under levels c.args.self.now c.self.invariant c.self.view_is) (search rules) c.requires.within

pub overflow_mul-at : goal.overflow_mul-at
overflow_mul-at c =
    let e = finding-within c.args.self.now c.args.n c.loop-i.i c.loop-i.at c.loop-i.rest c.loop-i.invariant in
    omega arith

pub find_from-found-requires : goal.find_from-found-requires
find_from-found-requires c =
    let xs = c.args.self.now in
    let i = c.loop-i.i - 1 in
    let at = c.loop-i.at in
    let levels = c.self.inside.levels.items in
    let here = level-read levels levels xs c.index.result.now i c.self.invariant c.self.view_is refl (omega arith) c.index.ensures in
    let up : c.loop-i.i ≡ i + 1 = omega arith in
    let found = subst (λ j. Finding xs c.args.n j at c.loop-i.rest) up c.loop-i.invariant in
    record { within = finding-fits xs c.index.result.now c.args.n i at c.loop-i.rest found here }

pub loop-i-preserved : goal.loop-i-preserved
loop-i-preserved c =
    let xs = c.args.self.now in
    let i = c.loop-i.i - 1 in
    let at = c.loop-i.at in
    let levels = c.self.inside.levels.items in
    let here = level-read levels levels xs c.index.result.now i c.self.invariant c.self.view_is refl (omega arith) c.index.ensures in
    let up : c.loop-i.i ≡ i + 1 = omega arith in
    let found = subst (λ j. Finding xs c.args.n j at c.loop-i.rest) up c.loop-i.invariant in
    finding_down xs c.index.result.now c.args.n i at c.loop-i.rest _ _ found here c.find_from-found.ensures.so_far c.find_from-found.ensures.inside

pub returns : goal.returns
returns c =
    let none : c.loop-i.i ≡ 0 = omega arith in
    let found = subst (λ j. Finding c.args.self.now c.args.n j c.loop-i.at c.loop-i.rest) none c.loop-i.invariant in
    let r = finding_all c.args.self.now c.args.n c.loop-i.at c.loop-i.rest found in
    record { before = r.0; past = r.1 }
