use Rattle.std.proofs.Common.{◌≡◌, ◌+◌, [], length, get_or, set, ap, refl, ◌∙◌, arith}
use Rattle.std.proofs.lemmas.List.{get_or_read}
use Rattle.sr_marks.specs.Counts.{total, lowest}
use Rattle.sr_marks.proofs.Walks.{changing_none, changing-within, changing-some, changing_more, changing_all, changing_is, some_level}
use Rattle.sr_marks.proofs.counts.Counts.raise.Goals as goal

pub loop-i-init : goal.loop-i-init
loop-i-init c =
    let at = c.args.at in
    let levels = c.self.inside.levels.items in
    let xs = lowest levels in
    let size = ap length c.self.view_is in
    let count : get_or xs at 0 ≡ get_or c.args.self.now at 0 = ap (λ ys. get_or ys at 0) c.self.view_is in
    changing_none 0 1 xs _ levels at (get_or xs at 0 + 1) c.self.invariant (omega arith) (omega arith) (omega arith) refl

pub invariant_of-self : goal.invariant_of-self
invariant_of-self c =
    let at = c.args.at in
    let first = c.self.inside.levels.items in
    let xs = lowest first in
    let levels = c.loop-i.self-inside.levels.items in
    let size = ap length c.self.view_is in
    let some = some_level first at (omega arith) in
    let long = c.loop-i.invariant.long in
    let are = changing_all 0 1 xs (set xs at (get_or xs at 0 + 1)) (length first) levels first c.loop-i.i c.loop-i.at c.self.invariant refl c.loop-i.invariant (omega arith) in
    let is = changing_is levels (set xs at (get_or xs at 0 + 1)) are (omega arith) in
    rw is are

pub raise-requires-clause-within : goal.raise-requires-clause-within
raise-requires-clause-within c =
    let first = c.self.inside.levels.items in
    let xs = lowest first in
    let levels = c.loop-i.self-inside.levels.items in
    let long = c.loop-i.invariant.long in
    let level = get_or_read levels c.loop-i.i c.index_mut.result.now (omega arith) c.index_mut.ensures.value [] in
    let size = ap length level in
    let within = changing-within 0 1 xs (set xs c.args.at (get_or xs c.args.at 0 + 1)) (length first) levels c.loop-i.i c.loop-i.at c.loop-i.invariant (omega arith) in
    omega arith

pub raise-requires-clause-fits : goal.raise-requires-clause-fits
raise-requires-clause-fits c =
    let first = c.self.inside.levels.items in
    let xs = lowest first in
    let levels = c.loop-i.self-inside.levels.items in
    let long = c.loop-i.invariant.long in
    let level = get_or_read levels c.loop-i.i c.index_mut.result.now (omega arith) c.index_mut.ensures.value [] in
    let count : get_or c.index_mut.result.now c.loop-i.at 0 ≡ get_or (get_or levels c.loop-i.i []) c.loop-i.at 0 = ap (λ ys. get_or ys c.loop-i.at 0) level in
    let whole = ap total c.self.view_is in
    let bounds = changing-some 0 1 xs (set xs c.args.at (get_or xs c.args.at 0 + 1)) (length first) levels c.loop-i.i c.loop-i.at c.loop-i.invariant (omega arith) in
    omega arith

pub loop-i-preserved : goal.loop-i-preserved
loop-i-preserved c =
    let first = c.self.inside.levels.items in
    let xs = lowest first in
    let levels = c.loop-i.self-inside.levels.items in
    let i = c.loop-i.i in
    let at = c.loop-i.at in
    let long = c.loop-i.invariant.long in
    let level = get_or_read levels i c.index_mut.result.now (omega arith) c.index_mut.ensures.value [] in
    let bounds = changing-some 0 1 xs (set xs c.args.at (get_or xs c.args.at 0 + 1)) (length first) levels i at c.loop-i.invariant (omega arith) in
    changing_more 0 1 xs _ (length first) levels _ i at (get_or (get_or levels i []) at 0 + 1) c.loop-i.invariant (omega arith) (omega arith) (ap (λ z. set levels i z) (c.raise.ensures ∙ ap (λ m. set m at (get_or m at 0 + 1)) level))

pub returns : goal.returns
returns c =
    let at = c.args.at in
    let first = c.self.inside.levels.items in
    let xs = lowest first in
    let levels = c.loop-i.self-inside.levels.items in
    let size = ap length c.self.view_is in
    let some = some_level first at (omega arith) in
    let long = c.loop-i.invariant.long in
    let are = changing_all 0 1 xs (set xs at (get_or xs at 0 + 1)) (length first) levels first c.loop-i.i c.loop-i.at c.self.invariant refl c.loop-i.invariant (omega arith) in
    changing_is levels (set xs at (get_or xs at 0 + 1)) are (omega arith) ∙ ap (λ ys. set ys at (get_or ys at 0 + 1)) c.self.view_is
