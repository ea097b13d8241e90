use Rattle.std.proofs.Common.{◌≡◌, ◌+◌, ◌++◌, ◌∷◌, [], ◌<◌, false, length, take, get_or, ap, sym, ◌∙◌, arith}
use Rattle.std.proofs.lemmas.List.{take_more}
use Rattle.sr_marks.specs.Marks.{MarksView}
use Rattle.sr_marks.proofs.Keeping.{kept-total, kept_room, kept_raised}
use Rattle.sr_marks.proofs.marks.Marks.push.Goals as goal

pub raise-requires-clause-fits : goal.raise-requires-clause-fits
raise-requires-clause-fits c =
    let inside = c.self.inside in
    let view = ap (λ (v : MarksView). v.room) c.self.view_is in
    let all = kept-total inside.tiers inside.pushed inside.counts inside.set c.self.invariant in
    let room = kept_room inside.tiers inside.pushed inside.counts inside.set inside.pushed c.self.invariant (omega (arith, c.requires)) (c.self.invariant.unset inside.pushed (omega arith)) in
    omega (arith, all.0, c.self.invariant.short)

pub overflow_add-self-then-mark : goal.overflow_add-self-then-mark
overflow_add-self-then-mark c =
    let inside = c.self.inside in
    let view = ap (λ (v : MarksView). v.room) c.self.view_is in
    let room = kept_room inside.tiers inside.pushed inside.counts inside.set inside.pushed c.self.invariant (omega (arith, c.requires)) (c.self.invariant.unset inside.pushed (omega arith)) in
    omega (arith, c.self.invariant.short)

pub invariant_of-self : goal.invariant_of-self
invariant_of-self c =
    let inside = c.self.inside in
    let view = ap (λ (v : MarksView). v.room) c.self.view_is in
    let within : inside.pushed < length inside.tiers = omega (arith, c.requires) in
    kept_raised inside.tiers c.put.new.self inside.pushed (inside.pushed + 1) inside.counts c.raise.new.self inside.set inside.pushed c.self.invariant within (c.self.invariant.unset inside.pushed (omega arith)) c.put.ensures c.raise.ensures (omega arith) (omega arith) (omega arith)

pub returns-else-mark-clause-marks : goal.returns-else-mark-clause-marks
returns-else-mark-clause-marks c =
    let inside = c.self.inside in
    let view = ap (λ (v : MarksView). v.room) c.self.view_is in
    let within : inside.pushed < length inside.tiers = omega (arith, c.requires) in
    let last : get_or inside.tiers inside.pushed false ≡ c.args.mark = c.self.invariant.unset inside.pushed (omega arith) ∙ sym c.if-mark.false in
    take_more inside.tiers inside.pushed false within ∙ (ap (λ m. take inside.pushed inside.tiers ++ m ∷ []) last ∙ ap (λ (v : MarksView). v.marks ++ c.args.mark ∷ []) c.self.view_is)
