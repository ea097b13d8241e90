use Rattle.std.proofs.Common.{length, take, ap, sym, ◌∙◌, arith}
use Rattle.std.proofs.lemmas.List.{length-take}
use Rattle.sr_marks.specs.Marks.{MarksView, nth_set}
use Rattle.sr_marks.proofs.SetMarks.{nth_set-none}
use Rattle.sr_marks.proofs.Keeping.{kept-total, kept-count, kept-nth_in, word-in_counts}
use Rattle.sr_marks.proofs.marks.Marks.nth.Goals as goal

pub overflow_cast-n : goal.overflow_cast-n
overflow_cast-n c = let inside = c.self.inside in let all = kept-total inside.tiers inside.pushed inside.counts inside.set c.self.invariant in omega (arith, all.0, all.1, c.self.invariant.short, c.if-n-self.true)

pub find-word-requires-clause-within : goal.find-word-requires-clause-within
find-word-requires-clause-within c = let inside = c.self.inside in let all = kept-total inside.tiers inside.pushed inside.counts inside.set c.self.invariant in omega (arith, all.0, c.if-n-self.true)

pub overflow_cast-rest : goal.overflow_cast-rest
overflow_cast-rest c = let inside = c.self.inside in let all = kept-total inside.tiers inside.pushed inside.counts inside.set c.self.invariant in omega (arith, all.0, all.1, c.self.invariant.short, c.if-n-self.true)

pub before-requires-clause-fits : goal.before-requires-clause-fits
before-requires-clause-fits c = let inside = c.self.inside in let all = kept-total inside.tiers inside.pushed inside.counts inside.set c.self.invariant in omega (arith, all.1, c.self.invariant.short)

pub returns-then-n-self-clause-value : goal.returns-then-n-self-clause-value
returns-then-n-self-clause-value c =
    let inside = c.self.inside in
    let within = word-in_counts inside.counts c.args.n c.find-word.result c.find-word.ensures.before c.find-word.ensures.past in
    let found = kept-nth_in inside.tiers inside.pushed inside.counts inside.set c.args.n c.find-word.result _ c.nth_in_word.result c.self.invariant within c.find-word.ensures.before (omega (arith, c.before-then-n-self.ensures)) c.nth_in_word.ensures.value in
    sym found.0 ∙ ap (λ (v : MarksView). nth_set c.args.n v.marks) c.self.view_is

pub returns-then-n-self-clause-within : goal.returns-then-n-self-clause-within
returns-then-n-self-clause-within c =
    let inside = c.self.inside in
    let within = word-in_counts inside.counts c.args.n c.find-word.result c.find-word.ensures.before c.find-word.ensures.past in
    let found = kept-nth_in inside.tiers inside.pushed inside.counts inside.set c.args.n c.find-word.result _ c.nth_in_word.result c.self.invariant within c.find-word.ensures.before (omega (arith, c.before-then-n-self.ensures)) c.nth_in_word.ensures.value in
    let view = ap (λ (v : MarksView). length v.marks) c.self.view_is in
    let short = length-take inside.pushed inside.tiers in
    let fits = c.self.invariant.within in
    let below = found.1 in
    omega arith

pub returns-else-n-self-clause-value : goal.returns-else-n-self-clause-value
returns-else-n-self-clause-value c =
    let inside = c.self.inside in
    let count = kept-count inside.tiers inside.pushed inside.counts inside.set c.self.invariant in
    sym (nth_set-none c.args.n (take inside.pushed inside.tiers) (omega (arith, c.if-n-self.false))) ∙ ap (λ (v : MarksView). nth_set c.args.n v.marks) c.self.view_is
