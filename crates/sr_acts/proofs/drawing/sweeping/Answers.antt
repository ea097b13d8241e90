use Rattle.std.proofs.Common.{◌<◌, ◌^◌, subst, arith}
use Rattle.sr_base.specs.Layout.{LayoutView}
use Rattle.sr_base.specs.WordName.{HasPlace}
use Rattle.sr_acts.proofs.Lists.{if_some}
use Rattle.sr_acts.proofs.drawing.sweeping.Goals as goal

pub returns-in-Some-place-clause-fits : goal.returns-in-Some-place-clause-fits
returns-in-Some-place-clause-fits c =
    let b = c.args.book.now in
    let e = c.in-Some.entry.now in
    let f = c.in-Some.ensures.fit in
    let few : e.taken < 2 ^ 60 = omega (arith, f.before, c.taken-taken.ensures.value, c.taken-taken.ensures.most) in
    (subst (λ (l : LayoutView). HasPlace l.shape c.in-Some-place.place) c.requires (if_some (HasPlace b.layout.shape) e.place c.in-Some-place.place f.stands c.in-Some-place.is), few)
