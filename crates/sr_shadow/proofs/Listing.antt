-- The list of entries, one after another.
use Rattle.std.proofs.Common.{◌≡◌, ℕ, zero, suc, ◌+◌, List, [], ◌∷◌, ◌++◌, drop, Some, sym, ◌∙◌, ap, append_assoc, add-one}
use Rattle.std.specs.Prelude.{slice_get}
use Rattle.sr_shadow.specs.declared.entry.Entry.{Entry}
use Rattle.sr_shadow.proofs.Splits.{some_same}

front : (es : List Entry) (i : ℕ) (e : Entry) → slice_get es i ≡ Some e → drop i es ≡ e ∷ drop (suc i) es
front [] i e h = absurd cc
front (x ∷ xs) zero e h = ap (λ y. y ∷ xs) (some_same x e h)
front (x ∷ xs) (suc i) e h = front xs i e h

pub entry_next : (old new es : List Entry) (i : ℕ) (e : Entry) → old ++ drop i es ≡ es → slice_get es i ≡ Some e → new ≡ old ++ e ∷ [] → new ++ drop (i + 1) es ≡ es
entry_next old new es i e left at is =
    ap (λ n. n ++ drop (i + 1) es) is ∙ (append_assoc old (e ∷ []) (drop (i + 1) es) ∙ (rw add-one (ap (λ d. old ++ d) (sym (front es i e at))) ∙ left))
