-- Usable slots.
use Rattle.std.proofs.Common.{◌≡◌, ℕ, Bool, true, false, cond, ◌&&◌, List, None, find, refl}
use Rattle.sr_base.specs.Key.{KeyView}
use Rattle.sr_base.specs.declared.shape.Shape.{Shape}
use Rattle.sr_shadow.specs.Book.{is_clashing}
use Rattle.sr_shadow.specs.declared.entry.Entry.{Entry}
use Rattle.sr_shadow.specs.Plan.{first_usable, is_free, slots_in}

both : (a : Bool) → (a && true) ≡ a
both true = refl
both false = refl

neither : (a : Bool) → (a && false) ≡ false
neither true = refl
neither false = refl

-- where another key clashes with the key none is usable, and else each that nobody holds
pub usable_slot : (shape : Shape) (es : List Entry) (key : KeyView) (way bucket : ℕ)
    → first_usable shape es key (slots_in way bucket) ≡ cond (is_clashing shape way key es) None (find (is_free es) (slots_in way bucket))
usable_slot shape es key way bucket = go (is_clashing shape way key es) refl
  where
    go : (c : Bool) → is_clashing shape way key es ≡ c → first_usable shape es key (slots_in way bucket) ≡ cond c None (find (is_free es) (slots_in way bucket))
    go true e = simp (e, neither)
    go false e = simp (e, both)
