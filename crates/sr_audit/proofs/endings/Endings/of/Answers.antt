use Rattle.std.proofs.Common.{◌≡◌, None, rules, sym, ap, ◌∙◌, arith}
use Rattle.std.proofs.lemmas.List.Sorted.{IsNonDecreasingBy-from_sort_by_key, list_any-IsPermutation}
use Rattle.std.specs.BTreeMap.{get}
use Rattle.std.specs.Ordering.{nat_cmp}
use Rattle.sr_base.specs.Key.{packed}
use Rattle.sr_audit.specs.Endings.{ends, is_after}
use Rattle.sr_audit.proofs.endings.Endings.of.Goals as goal

pub returns-clause-lists : goal.returns-clause-lists
returns-clause-lists c = record {
  same = λ k retired tick.
      sym (list_any-IsPermutation (ends k retired tick) _ _ c.in_ok-sort_by_key.ensures.permutation) ∙ c.in_ok-list.ensures k retired tick;
  rise = IsNonDecreasingBy-from_sort_by_key (λ e. e.entered) _ c.in_ok-sort_by_key.ensures.sorted (λ a r q k. search rules);
  fits = omega arith;
  each = λ k key tick. let none : get nat_cmp c.new.result (packed k) ≡ None = search rules in ap (is_after tick) none;
}
