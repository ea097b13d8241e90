-- A key that is made live is about to leave no place, and its place is free.
use Rattle.std.proofs.Common.{◌≡◌, ℕ, Bool, true, false, List, [], ◌∷◌, ◌++◌, if◌then◌else◌, Some, None, refl, ◌∙◌}
use Rattle.std.specs.List.{AllByRecursion}
use Rattle.sr_base.specs.Key.{KeyView}
use Rattle.sr_inv_facts.proofs.Lists.{all_more}
use Rattle.sr_machine.specs.declared.job.Job.TheVariants as job
use Rattle.sr_machine.specs.declared.put.Put.{Put}
use Rattle.sr_machine.specs.declared.store.Store.TheVariants as store
use Rattle.sr_shadow.proofs.Places.{holder_more}
use Rattle.sr_shadow.specs.Book.{entries_with, entry_for, holder_of, is_registered}
use Rattle.sr_shadow.specs.Entry.{fresh, is_of}
use Rattle.sr_shadow.specs.declared.entry.Entry.{Entry}
use Rattle.sr_standing.specs.Standing.{Standing}
use Rattle.sr_update.proofs.Dues.{all_find}

-- each entry still is so once a key is taken that has none of its own
with_each : (P : Entry → Type 0) (key : KeyView) (version taken : ℕ) (es : List Entry) → P (fresh key version taken) → AllByRecursion P es
    → AllByRecursion P (entries_with key version taken es)
with_each P key version taken es new a = at (is_registered key es)
  where
    at : (b : Bool) → AllByRecursion P (if b then es else (es ++ fresh key version taken ∷ []))
    at true = a
    at false = all_more P es (fresh key version taken ∷ []) a (new, tt)

pub made_alone : (p : Put) (es : List Entry) (version taken : ℕ) → Standing es (job.Store (store.Judge p))
    → (e : Entry) → entry_for p.key (entries_with p.key version taken es) ≡ Some e → e.also ≡ None
made_alone p es version taken h e q =
    all_find (λ e. e.also ≡ None) (is_of p.key) (entries_with p.key version taken es) e (with_each (λ e. e.also ≡ None) p.key version taken es refl h.also) q

pub made_free : (p : Put) (es : List Entry) (version taken : ℕ) → Standing es (job.Store (store.Judge p))
    → holder_of p.place (entries_with p.key version taken es) ≡ None
made_free p es version taken h = at (is_registered p.key es)
  where
    at : (b : Bool) → holder_of p.place (if b then es else (es ++ fresh p.key version taken ∷ [])) ≡ None
    at true = h.put.free
    at false = holder_more p.place es (fresh p.key version taken) refl refl ∙ h.put.free
