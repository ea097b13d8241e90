-- A key that counts as registered, of which nothing else is known.
use Rattle.std.proofs.Common.{◌≡◌, ℕ, Bool, true, false, cond, ◌&&◌, ◌||◌, not, List, [], ◌∷◌, ◌++◌, refl, ◌∙◌, ap}
use Rattle.std.proofs.lemmas.List.Folds.{list_any-append}
use Rattle.sr_base.specs.Key.{KeyView}
use Rattle.sr_base.specs.declared.shape.Shape.{Shape}
use Rattle.sr_shadow.specs.Book.{is_clashing, is_registered, is_rival}
use Rattle.sr_shadow.specs.Entry.{fresh}
use Rattle.sr_shadow.specs.Plan.{with_key}
use Rattle.sr_shadow.specs.declared.entry.Entry.{Entry}

or_false : (b : Bool) → (b || false) ≡ b
or_false true = refl
or_false false = refl

-- it is a rival like those that are registered
pub counted_clashing : (shape : Shape) (way : ℕ) (key counted : KeyView) (es : List Entry)
    → is_clashing shape way key (with_key counted es)
    ≡ (is_clashing shape way key es || (not (is_registered counted es) && is_rival shape way key (fresh counted 0 0)))
counted_clashing shape way key counted es = by (is_registered counted es)
  where
    by : (b : Bool) → is_clashing shape way key (cond b es (es ++ fresh counted 0 0 ∷ []))
        ≡ (is_clashing shape way key es || (not b && is_rival shape way key (fresh counted 0 0)))
    by true = or_sym (is_clashing shape way key es)
      where
        or_sym : (b : Bool) → b ≡ (b || false)
        or_sym true = refl
        or_sym false = refl
    by false = list_any-append (is_rival shape way key) es (fresh counted 0 0 ∷ [])
        ∙ ap (λ b. is_clashing shape way key es || b) (or_false (is_rival shape way key (fresh counted 0 0)))
