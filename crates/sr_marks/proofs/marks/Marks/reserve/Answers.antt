use Rattle.std.proofs.Common.{◌*◌, ◌-◌, ◌<◌, ◌^◌, Bool, List, length, replicate, false, ap, sym, ◌∙◌, subst, arith}
use Rattle.std.proofs.lemmas.List.{length-append, length-replicate}
use Rattle.sr_marks.specs.Words.{AreWordCounts}
use Rattle.sr_marks.proofs.Keeping.{kept_grown}
use Rattle.sr_marks.proofs.marks.Marks.reserve.Goals as goal

pub invariant_of-self : goal.invariant_of-self
invariant_of-self c =
    let inside = c.self.inside in
    let more = 64 * c.div_ceil.result - length inside.tiers in
    let long = ap length c.in_ok-flags.ensures ∙ length-append inside.tiers (replicate more false) in
    let rest = length-replicate more false in
    let same = ap length c.in_ok-self-inside.ensures in
    let short : length c.in_ok-self-inside.field-0 < 2 ^ 32 = omega (arith, c.div_ceil.ensures, c.max-capacity.ensures, c.min.ensures, c.self.invariant.short, c.self.invariant.within, c.len.ensures, c.if-additional-self.false) in
    kept_grown inside.tiers c.in_ok-self-inside.field-0 inside.pushed inside.counts c.in_ok-counts.counts inside.set more c.self.invariant (c.in_ok-self-inside.ensures ∙ c.in_ok-flags.ensures) (subst (λ (ms : List Bool). AreWordCounts c.in_ok-counts.counts ms) (sym c.in_ok-self-inside.ensures) c.in_ok-counts.ensures) short
