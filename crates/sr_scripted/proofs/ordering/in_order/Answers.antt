use Rattle.std.proofs.Common.{rules, reverse, ap, ◌∙◌, nat_cmp}
use Rattle.std.proofs.lemmas.List.Sorted.{IsStrictWeakOrder-flip, answers_always, ranks_by}
use Rattle.std.specs.Ordering.{is_lt}
use Rattle.std.proofs.lemmas.Cmp.{nat_cmp_total}
use Rattle.sr_law.specs.Ticks.{out_of}
use Rattle.sr_scripted.proofs.Newest.{is_newer, sorted_is}
use Rattle.sr_scripted.proofs.ordering.in_order.Goals as goal

pub returns : goal.returns
returns c =
    let ranked = IsStrictWeakOrder-flip (λ x y. is_lt (nat_cmp (out_of x) (out_of y))) (ranks_by nat_cmp_total out_of) in
    c.reverse.ensures.items
    ∙ ap reverse (sorted_is c.args.lines.items c.sort_by.new.self.items
    (c.in_ok-sort_by.ensures.sorted is_newer ranked (answers_always _ _ _ (λ f a r g h. search rules)))
    (c.sort_by.ensures.stable is_newer ranked (answers_always _ _ _ (λ f a r g h. search rules))))
