use Rattle.std.proofs.Common.{◌<◌, length, take, set, ap, sym, ◌∙◌, arith}
use Rattle.std.proofs.lemmas.List.{length-take}
use Rattle.sr_marks.specs.Marks.{MarksView}
use Rattle.sr_marks.proofs.Wording.{set-take}
use Rattle.sr_marks.proofs.Keeping.{kept-total, kept_room, kept_some, kept_raised, kept_lowered, unlike_set, unlike_unset}
use Rattle.sr_marks.proofs.marks.Marks.set.Goals as goal

pub raise-requires-clause-fits : goal.raise-requires-clause-fits
raise-requires-clause-fits c =
    let inside = c.self.inside in
    let view = ap (λ (v : MarksView). length v.marks) c.self.view_is in
    let short = length-take inside.pushed inside.tiers in
    let all = kept-total inside.tiers inside.pushed inside.counts inside.set c.self.invariant in
    let room = kept_room inside.tiers inside.pushed inside.counts inside.set c.args.at c.self.invariant (omega (arith, c.requires)) (sym c.get.ensures ∙ unlike_set c.get.result c.args.mark c.if-get-mark.false c.if-mark.true) in
    omega (arith, all.0, c.self.invariant.short)

pub overflow_add-self : goal.overflow_add-self
overflow_add-self c =
    let inside = c.self.inside in
    let view = ap (λ (v : MarksView). length v.marks) c.self.view_is in
    let short = length-take inside.pushed inside.tiers in
    let room = kept_room inside.tiers inside.pushed inside.counts inside.set c.args.at c.self.invariant (omega (arith, c.requires)) (sym c.get.ensures ∙ unlike_set c.get.result c.args.mark c.if-get-mark.false c.if-mark.true) in
    omega (arith, c.self.invariant.short)

pub invariant_of-self : goal.invariant_of-self
invariant_of-self c =
    let inside = c.self.inside in
    let view = ap (λ (v : MarksView). length v.marks) c.self.view_is in
    let short = length-take inside.pushed inside.tiers in
    let within : c.args.at < inside.pushed = omega (arith, c.requires) in
    let fits = c.self.invariant.within in
    kept_raised inside.tiers c.put.new.self inside.pushed inside.pushed inside.counts c.raise.new.self inside.set c.args.at c.self.invariant (omega arith) (sym c.get.ensures ∙ unlike_set c.get.result c.args.mark c.if-get-mark.false c.if-mark.true) (c.put.ensures ∙ ap (λ m. set inside.tiers c.args.at m) c.if-mark.true) c.raise.ensures (omega arith) within fits

pub lower-requires-clause-some : goal.lower-requires-clause-some
lower-requires-clause-some c =
    let inside = c.self.inside in
    let view = ap (λ (v : MarksView). length v.marks) c.self.view_is in
    let short = length-take inside.pushed inside.tiers in
    (kept_some inside.tiers inside.pushed inside.counts inside.set c.args.at c.self.invariant (omega (arith, c.requires)) (sym c.get.ensures ∙ unlike_unset c.get.result c.args.mark c.if-get-mark.false c.if-mark.false)).1

pub overflow_sub-self : goal.overflow_sub-self
overflow_sub-self c =
    let inside = c.self.inside in
    let view = ap (λ (v : MarksView). length v.marks) c.self.view_is in
    let short = length-take inside.pushed inside.tiers in
    let some = kept_some inside.tiers inside.pushed inside.counts inside.set c.args.at c.self.invariant (omega (arith, c.requires)) (sym c.get.ensures ∙ unlike_unset c.get.result c.args.mark c.if-get-mark.false c.if-mark.false) in
    omega (arith, some.0)

pub invariant_of-self-else-mark : goal.invariant_of-self-else-mark
invariant_of-self-else-mark c =
    let inside = c.self.inside in
    let view = ap (λ (v : MarksView). length v.marks) c.self.view_is in
    let short = length-take inside.pushed inside.tiers in
    let within : c.args.at < inside.pushed = omega (arith, c.requires) in
    kept_lowered inside.tiers c.put.new.self inside.pushed inside.counts c.lower.new.self inside.set c.args.at c.self.invariant within (sym c.get.ensures ∙ unlike_unset c.get.result c.args.mark c.if-get-mark.false c.if-mark.false) (c.put.ensures ∙ ap (λ m. set inside.tiers c.args.at m) c.if-mark.false) c.lower.ensures

pub returns-then-mark-clause-marks : goal.returns-then-mark-clause-marks
returns-then-mark-clause-marks c =
    let inside = c.self.inside in
    ap (take inside.pushed) c.put.ensures ∙ (set-take inside.pushed c.args.at inside.tiers c.args.mark ∙ ap (λ (v : MarksView). set v.marks c.args.at c.args.mark) c.self.view_is)

pub returns-else-mark-clause-marks : goal.returns-else-mark-clause-marks
returns-else-mark-clause-marks c =
    let inside = c.self.inside in
    ap (take inside.pushed) c.put.ensures ∙ (set-take inside.pushed c.args.at inside.tiers c.args.mark ∙ ap (λ (v : MarksView). set v.marks c.args.at c.args.mark) c.self.view_is)
