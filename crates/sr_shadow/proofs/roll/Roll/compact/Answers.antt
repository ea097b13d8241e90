use Rattle.std.proofs.Common.{◌≡◌, ap, sym, subst, ◌∙◌, filter, map, is_some, rules}
use Rattle.indexmap.proofs.CallerLemmas.{filter-RetainsPairs}
use Rattle.sr_shadow.specs.Entry.{may_retire}
use Rattle.sr_shadow.specs.Roll.{entries_in, passes, Rising, Marked}
use Rattle.sr_shadow.proofs.Slots.{filtered_entries, rising_filtered}
use Rattle.sr_shadow.proofs.roll.Roll.compact.Goals as goal

pub invariant_of-self : goal.invariant_of-self
invariant_of-self c =
    let kept : c.retain.new.self.entries ≡ filter (λ s. is_some s.1) c.self.inside.slots.entries = filter-RetainsPairs _ (λ s. is_some s.1) _ (λ k v b w g call. search rules) _ _ c.retain.ensures.filtered in
    record {
      rising = subst (λ ss. Rising 0 ss c.self.inside.taken) (sym kept) (rising_filtered 0 c.self.inside.taken c.self.inside.slots.entries c.self.invariant.rising);
      marked = subst (λ ss. Marked c.reserve.new.self ss) (sym kept) (record {
        filled = c.reserve.ensures.filled ∙ c.in_ok-marks.ensures.marked.filled;
        pending = c.reserve.ensures.pending ∙ c.in_ok-marks.ensures.marked.pending;
        placed = c.reserve.ensures.placed ∙ c.in_ok-marks.ensures.marked.placed;
        retirable = c.reserve.ensures.retirable ∙ c.in_ok-marks.ensures.marked.retirable ∙ ap (λ n. map (λ s. passes (may_retire n) s.1) (filter (λ s. is_some s.1) c.self.inside.slots.entries)) (sym c.reserve.ensures.lives);
      });
    }

pub returns-clause-entries : goal.returns-clause-entries
returns-clause-entries c =
    let kept : c.retain.new.self.entries ≡ filter (λ s. is_some s.1) c.self.inside.slots.entries = filter-RetainsPairs _ (λ s. is_some s.1) _ (λ k v b w g call. search rules) _ _ c.retain.ensures.filtered in
    ap entries_in kept ∙ filtered_entries c.self.inside.slots.entries ∙ ap (λ v. v.entries) c.self.view_is
