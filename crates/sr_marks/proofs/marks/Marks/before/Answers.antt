use Rattle.std.proofs.Common.{◌≡◌, ◌+◌, ap, ◌/◌, sym, ◌∙◌, arith}
use Rattle.sr_marks.specs.Marks.{MarksView, rank_of}
use Rattle.sr_marks.proofs.SetMarks.{rank_all}
use Rattle.sr_marks.proofs.Wording.{rank-in_word}
use Rattle.sr_marks.proofs.Keeping.{kept-total, kept-rank, word_counts-before}
use Rattle.sr_marks.proofs.marks.Marks.before.Goals as goal

pub before-requires-clause-fits : goal.before-requires-clause-fits
before-requires-clause-fits c =
    let inside = c.self.inside in
    let all = kept-total inside.tiers inside.pushed inside.counts inside.set c.self.invariant in
    omega (arith, all.1, c.self.invariant.short)

pub returns-then-at-len : goal.returns-then-at-len
returns-then-at-len c =
    let inside = c.self.inside in
    let long = c.self.invariant.counted.long in
    let word = word_counts-before inside.counts inside.tiers (c.args.at / 64) c.self.invariant.counted (omega (arith, c.if-at-len.true, c.len.ensures)) in
    let whole = rank-in_word inside.tiers c.args.at in
    let all : c.before-then-at-len.result + c.count_before.result ≡ rank_of c.args.at inside.tiers = omega (arith, c.before-then-at-len.ensures, c.count_before.ensures) in
    all ∙ (kept-rank inside.tiers inside.pushed inside.counts inside.set c.args.at c.self.invariant ∙ ap (λ (v : MarksView). rank_of c.args.at v.marks) c.self.view_is)

pub returns-else-at-len : goal.returns-else-at-len
returns-else-at-len c =
    let inside = c.self.inside in
    c.self.invariant.set_is ∙ (sym (rank_all inside.tiers c.args.at (omega (arith, c.if-at-len.false, c.len.ensures))) ∙ (kept-rank inside.tiers inside.pushed inside.counts inside.set c.args.at c.self.invariant ∙ ap (λ (v : MarksView). rank_of c.args.at v.marks) c.self.view_is))
