-- An entry whose other bucket is full doesn't move.
use Rattle.std.proofs.Common.{◌≡◌, ℕ, Bool, true, false, cond, List, find, Option, None, Some, is_none, refl, sym, ◌∙◌, ap, subst}
use Rattle.sr_base.specs.Key.{KeyView}
use Rattle.sr_base.specs.declared.place.Place.{Place}
use Rattle.sr_base.specs.declared.place.Place.TheVariants.{Slot, Row}
use Rattle.sr_base.specs.declared.shape.Shape.{Shape}
use Rattle.sr_hash.specs.Uses.{bucket_of}
use Rattle.sr_shadow.specs.Book.{DistinctKeys, HeldOnce, entry_for, holder_of, is_clashing}
use Rattle.sr_shadow.specs.Entry.{is_at, is_of, is_slot}
use Rattle.sr_shadow.specs.Moves.{IsMover, NonePlaced, if_at}
use Rattle.sr_shadow.specs.Plan.{entry_at, is_free, move_at, move_to, other_way, slots_of, target, with_key}
use Rattle.sr_shadow.specs.declared.entry.Entry.{Entry}
use Rattle.sr_base.proofs.Sameness.{same_key-true}
use Rattle.sr_shadow.proofs.Finding.{found_passes}
use Rattle.sr_shadow.proofs.Holding.{held_at}
use Rattle.sr_shadow.proofs.Moving.{counted_holder, find_alike, slot_mover}
use Rattle.sr_shadow.proofs.Usable.{usable_slot}

-- the entry that is found for a key is its
pub found_key : (key : KeyView) (es : List Entry) (e : Entry) → entry_for key es ≡ Some e → e.key ≡ key
found_key key es e h = sym (same_key-true key e.key (found_passes (is_of key) es e h))

nowhere : (c : Bool) → ◌≡◌ {A = Option Place} (cond c None None) None
nowhere true = refl
nowhere false = refl

-- it has nowhere to go
no_target : (shape : Shape) (es : List Entry) (key other : KeyView) (way : ℕ) → find (is_free es) (slots_of shape way other) ≡ None → target shape es key other way ≡ None
no_target shape es key other way none =
    usable_slot shape (with_key key es) other way (bucket_of way other shape.buckets)
    ∙ ap (λ r. cond (is_clashing shape way other (with_key key es)) None r)
    (find_alike (is_free (with_key key es)) (is_free es) (slots_of shape way other) (λ place. ap is_none (counted_holder place es key)) ∙ none)
    ∙ nowhere (is_clashing shape way other (with_key key es))

pub passed_over : (shape : Shape) (es : List Entry) (key holder : KeyView) (way : ℕ) (from : Place) → DistinctKeys es → HeldOnce es → holder_of from es ≡ Some holder
    → find (is_free es) (slots_of shape (other_way way) holder) ≡ None → move_at shape es key way from (entry_at from es) ≡ None
passed_over shape es key holder way from distinct once held none =
    ap (move_at shape es key way from) (held_at from holder es distinct once held) ∙ by (entry_for holder es) refl
  where
    at : (x : Entry) → x.key ≡ holder → (b : Bool) → move_at shape es key way from (cond b (Some x) None) ≡ None
    at x own false = refl
    at x own true = ap (move_to shape es key x.key from) (no_target shape es key x.key (other_way way) (subst (λ k. find (is_free es) (slots_of shape (other_way way) k) ≡ None) (sym own) none))

    by : (o : Option Entry) → entry_for holder es ≡ o → move_at shape es key way from (if_at from o) ≡ None
    by None f = refl
    by (Some x) f = at x (found_key holder es x f) (is_at from x.place)

-- the entry that is in a slot may move
pub mover_there : (es : List Entry) (key : KeyView) (e : Entry) (from : Place) → is_slot from ≡ true → NonePlaced key es → entry_at from es ≡ Some e → entry_for e.key es ≡ Some e → IsMover key e es
mover_there es key e (Slot way bucket cell) slot none found own = slot_mover es key e way bucket cell none found own
mover_there es key e (Row row) slot none found own = absurd cc

-- what the entry is once its place is looked at
pub kept_key : (place : Place) (key : KeyView) (es : List Entry) (e : Entry) → if_at place (entry_for key es) ≡ Some e → e.key ≡ key
kept_key place key es e h = by (entry_for key es) refl h
  where
    it : (b : Bool) (x : Entry) → cond b (Some x) None ≡ Some e → x ≡ e
    it true x h = cc h
    it false x h = absurd cc

    by : (o : Option Entry) → entry_for key es ≡ o → if_at place o ≡ Some e → e.key ≡ key
    by None f h = absurd cc
    by (Some x) f h = subst (λ (y : Entry). y.key ≡ key) (it (is_at place x.place) x h) (found_key key es x f)
