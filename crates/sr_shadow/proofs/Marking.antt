-- A plan is made of the entries' keys and places alone.
use Rattle.std.proofs.Common.{◌≡◌, ℕ, Bool, true, false, cond, ◌&&◌, ◌||◌, not, List, [], ◌∷◌, ◌++◌, find, is_none, Option, None, Some, option_map, refl, sym, ◌∙◌, ap}
use Rattle.std.specs.Prelude.{unwrap_or}
use Rattle.std.specs.List.{list_any}
use Rattle.std.specs.Option.{option_or}
use Rattle.sr_base.specs.Key.{KeyView, same_key}
use Rattle.sr_base.specs.declared.place.Place.{Place}
use Rattle.sr_base.specs.declared.place.Place.TheVariants.{Slot, Row}
use Rattle.sr_base.specs.declared.shape.Shape.{Shape}
use Rattle.sr_hash.specs.Clash.{clashes}
use Rattle.sr_shadow.specs.Book.{is_clashing, is_registered, is_rival, with_changed}
use Rattle.sr_shadow.specs.Entry.{fresh, holds, is_at, is_of, is_row}
use Rattle.sr_shadow.specs.Plan.{KeepsPlaces, clashes_at, entry_at, first_move, first_plan, first_usable, is_clear, is_clear_but, is_free, is_mistaken, is_mistaken_but, is_usable, key_rows, key_slots, move_at, move_from, move_if_clear, move_plan, move_to, moved, other_way, row_plan, slot_if_clear, slot_plan, slot_then, slots_of, target, with_key, with_moved}
use Rattle.sr_shadow.specs.declared.entry.Entry.{Entry}
use Rattle.sr_shadow.specs.declared.plan.Plan.{Plan}
use Rattle.sr_shadow.specs.declared.plan.Plan.TheVariants as plan

-- two lists have the same keys and places, one by one
abbrev pub Alike : List Entry → List Entry → Type 0
Alike [] [] = Unit {0}
Alike [] (f ∷ fs) = ⊥
Alike (e ∷ es) [] = ⊥
Alike (e ∷ es) (f ∷ fs) = KeepsPlaces e f × Alike es fs

-- a test of key and places passes the same
any_alike : (p : Entry → Bool) → ((e f : Entry) → KeepsPlaces e f → p f ≡ p e) → (es fs : List Entry) → Alike es fs → list_any p fs ≡ list_any p es
any_alike p same [] [] a = refl
any_alike p same [] (f ∷ fs) a = absurd a
any_alike p same (e ∷ es) [] a = absurd a
any_alike p same (e ∷ es) (f ∷ fs) a = ap (λ b. b || list_any p fs) (same e f a.0) ∙ ap (λ b. p e || b) (any_alike p same es fs a.1)

-- and what is found has the same key
key_alike : (p : Entry → Bool) → ((e f : Entry) → KeepsPlaces e f → p f ≡ p e) → (es fs : List Entry) → Alike es fs → option_map (λ x. x.key) (find p fs) ≡ option_map (λ x. x.key) (find p es)
key_alike p same [] [] a = refl
key_alike p same [] (f ∷ fs) a = absurd a
key_alike p same (e ∷ es) [] a = absurd a
key_alike p same (e ∷ es) (f ∷ fs) a = ap (λ b. option_map (λ x. x.key) (cond b (Some f) (find p fs))) (same e f a.0) ∙ by (p e) (key_alike p same es fs a.1)
  where
    by : (b : Bool) → option_map (λ x. x.key) (find p fs) ≡ option_map (λ x. x.key) (find p es) → option_map (λ x. x.key) (cond b (Some f) (find p fs)) ≡ option_map (λ x. x.key) (cond b (Some e) (find p es))
    by true more = ap Some a.0.key
    by false more = more

-- the tests
of_same : (key : KeyView) (e f : Entry) → KeepsPlaces e f → is_of key f ≡ is_of key e
of_same key e f k = ap (same_key key) k.key

holds_same : (place : Place) (e f : Entry) → KeepsPlaces e f → holds place f ≡ holds place e
holds_same place e f k = ap (λ p. is_at place p || is_at place f.also) k.place ∙ ap (λ p. is_at place e.place || is_at place p) k.also

at_same : (place : Place) (e f : Entry) → KeepsPlaces e f → is_at place f.place ≡ is_at place e.place
at_same place e f k = ap (is_at place) k.place

rival_same : (shape : Shape) (way : ℕ) (key : KeyView) (e f : Entry) → KeepsPlaces e f → is_rival shape way key f ≡ is_rival shape way key e
rival_same shape way key e f k = ap (λ p. not (is_row p) && (not (same_key key f.key) && clashes shape way key f.key)) k.place ∙ ap (λ q. not (is_row e.place) && (not (same_key key q) && clashes shape way key q)) k.key

mistaken_same : (shape : Shape) (key : KeyView) (e f : Entry) → KeepsPlaces e f → is_mistaken shape key f ≡ is_mistaken shape key e
mistaken_same shape key e f k = ap (λ p. not (same_key key f.key) && clashes_at shape key f.key p) k.place ∙ ap (λ q. not (same_key key q) && clashes_at shape key q e.place) k.key

mistaken_but_same : (shape : Shape) (key other : KeyView) (e f : Entry) → KeepsPlaces e f → is_mistaken_but shape key other f ≡ is_mistaken_but shape key other e
mistaken_but_same shape key other e f k = ap (λ b. not (is_of other f) && b) (mistaken_same shape key e f k) ∙ ap (λ b. not b && is_mistaken shape key e) (of_same other e f k)

-- ---- slots

free_alike : (es fs : List Entry) → Alike es fs → (place : Place) → is_free fs place ≡ is_free es place
free_alike es fs a place = ap is_none (key_alike (holds place) (holds_same place) es fs a)

usable_alike : (shape : Shape) (key : KeyView) (es fs : List Entry) → Alike es fs → (place : Place) → is_usable shape fs key place ≡ is_usable shape es key place
usable_alike shape key es fs a (Row row) = refl
usable_alike shape key es fs a (Slot way bucket cell) =
    ap (λ b. b && not (is_clashing shape way key fs)) (free_alike es fs a (Slot way bucket cell))
    ∙ ap (λ b. is_free es (Slot way bucket cell) && not b) (any_alike (is_rival shape way key) (rival_same shape way key) es fs a)

find_same : {X : Type 0} (p q : X → Bool) (xs : List X) → ((x : X) → p x ≡ q x) → find p xs ≡ find q xs
find_same p q [] h = refl
find_same p q (x ∷ xs) h = ap (λ b. cond b (Some x) (find p xs)) (h x) ∙ ap (λ r. cond (q x) (Some x) r) (find_same p q xs h)

first_alike : (shape : Shape) (key : KeyView) (es fs : List Entry) → Alike es fs → (places : List Place) → first_usable shape fs key places ≡ first_usable shape es key places
first_alike shape key es fs a places = find_same (is_usable shape fs key) (is_usable shape es key) places (usable_alike shape key es fs a)

slot_alike : (shape : Shape) (key : KeyView) (es fs : List Entry) → Alike es fs → slot_plan shape fs key ≡ slot_plan shape es key
slot_alike shape key es fs a =
    ap (λ b. slot_if_clear (not b) (first_usable shape fs key (key_slots shape key))) (any_alike (is_mistaken shape key) (mistaken_same shape key) es fs a)
    ∙ ap (slot_if_clear (is_clear shape es key)) (first_alike shape key es fs a (key_slots shape key))

-- ---- moves

itself : (e : Entry) → KeepsPlaces e e
itself e = record { key = refl; place = refl; also = refl }

alike_more : (es fs : List Entry) (x : Entry) → Alike es fs → Alike (es ++ x ∷ []) (fs ++ x ∷ [])
alike_more [] [] x a = (itself x, tt)
alike_more [] (f ∷ fs) x a = absurd a
alike_more (e ∷ es) [] x a = absurd a
alike_more (e ∷ es) (f ∷ fs) x a = (a.0, alike_more es fs x a.1)

counted_alike : (key : KeyView) (es fs : List Entry) → Alike es fs → Alike (with_key key es) (with_key key fs)
counted_alike key es fs a = by (is_registered key es) (is_registered key fs) (any_alike (is_of key) (of_same key) es fs a)
  where
    by : (b d : Bool) → d ≡ b → Alike (cond b es (es ++ fresh key 0 0 ∷ [])) (cond d fs (fs ++ fresh key 0 0 ∷ []))
    by true true h = a
    by false false h = alike_more es fs (fresh key 0 0) a
    by true false h = absurd cc
    by false true h = absurd cc

moved_alike : (other : KeyView) (to : Place) (es fs : List Entry) → Alike es fs → Alike (with_moved other to es) (with_moved other to fs)
moved_alike other to [] [] a = tt
moved_alike other to [] (f ∷ fs) a = absurd a
moved_alike other to (e ∷ es) [] a = absurd a
moved_alike other to (e ∷ es) (f ∷ fs) a = (by (is_of other e) (is_of other f) (of_same other e f a.0), moved_alike other to es fs a.1)
  where
    by : (b d : Bool) → d ≡ b → KeepsPlaces (cond b (moved to e) e) (cond d (moved to f) f)
    by true true h = record { key = a.0.key; place = refl; also = refl }
    by false false h = a.0
    by true false h = absurd cc
    by false true h = absurd cc

move_to_alike : (shape : Shape) (key other : KeyView) (from : Place) (es fs : List Entry) → Alike es fs → (o : Option Place) → move_to shape fs key other from o ≡ move_to shape es key other from o
move_to_alike shape key other from es fs a None = refl
move_to_alike shape key other from es fs a (Some to) =
    ap (λ b. move_if_clear (not b) other from to (slot_then shape fs key other to)) (any_alike (is_mistaken_but shape key other) (mistaken_but_same shape key other) es fs a)
    ∙ ap (move_if_clear (is_clear_but shape es key other) other from to) (first_alike shape key (with_moved other to es) (with_moved other to fs) (moved_alike other to es fs a) (key_slots shape key))

-- what moves is told by its key
move_keyed : Shape → List Entry → KeyView → ℕ → Place → Option KeyView → Option Plan
move_keyed shape es key way from None = None
move_keyed shape es key way from (Some other) = move_to shape es key other from (target shape es key other (other_way way))

by_key : (shape : Shape) (es : List Entry) (key : KeyView) (way : ℕ) (from : Place) (o : Option Entry) → move_at shape es key way from o ≡ move_keyed shape es key way from (option_map (λ x. x.key) o)
unfolding move_keyed
by_key shape es key way from None = refl
by_key shape es key way from (Some e) = refl

keyed_alike : (shape : Shape) (key : KeyView) (way : ℕ) (from : Place) (es fs : List Entry) → Alike es fs → (o : Option KeyView) → move_keyed shape fs key way from o ≡ move_keyed shape es key way from o
unfolding move_keyed
keyed_alike shape key way from es fs a None = refl
keyed_alike shape key way from es fs a (Some other) =
    ap (move_to shape fs key other from) (first_alike shape other (with_key key es) (with_key key fs) (counted_alike key es fs a) (slots_of shape (other_way way) other))
    ∙ move_to_alike shape key other from es fs a (target shape es key other (other_way way))

move_from_alike : (shape : Shape) (key : KeyView) (es fs : List Entry) → Alike es fs → (slot : Place) → move_from shape fs key slot ≡ move_from shape es key slot
move_from_alike shape key es fs a (Row row) = refl
move_from_alike shape key es fs a (Slot way bucket cell) =
    by_key shape fs key way (Slot way bucket cell) (entry_at (Slot way bucket cell) fs)
    ∙ (ap (move_keyed shape fs key way (Slot way bucket cell)) (key_alike (λ e. is_at (Slot way bucket cell) e.place) (at_same (Slot way bucket cell)) es fs a)
    ∙ (keyed_alike shape key way (Slot way bucket cell) es fs a (option_map (λ x. x.key) (entry_at (Slot way bucket cell) es))
    ∙ sym (by_key shape es key way (Slot way bucket cell) (entry_at (Slot way bucket cell) es))))

move_alike : (shape : Shape) (key : KeyView) (es fs : List Entry) → Alike es fs → (places : List Place) → first_move shape fs key places ≡ first_move shape es key places
move_alike shape key es fs a [] = refl
move_alike shape key es fs a (slot ∷ places) =
    ap (λ m. option_or m (first_move shape fs key places)) (move_from_alike shape key es fs a slot) ∙ ap (option_or (move_from shape es key slot)) (move_alike shape key es fs a places)

-- ---- the plan

row_alike : (shape : Shape) (key : KeyView) (es fs : List Entry) → Alike es fs → row_plan shape fs key ≡ row_plan shape es key
row_alike shape key es fs a = ap (option_map plan.FullKey) (find_same (λ row. is_free fs (Row row)) (λ row. is_free es (Row row)) (key_rows shape key) (λ row. free_alike es fs a (Row row)))

pub plan_alike : (shape : Shape) (key : KeyView) (es fs : List Entry) → Alike es fs → first_plan shape fs key ≡ first_plan shape es key
unfolding first_plan
plan_alike shape key es fs a =
    ap (λ s. unwrap_or (option_or s (option_or (move_plan shape fs key) (row_plan shape fs key))) plan.NoRoom) (slot_alike shape key es fs a)
    ∙ (ap (λ m. unwrap_or (option_or (slot_plan shape es key) (option_or m (row_plan shape fs key))) plan.NoRoom) (move_alike shape key es fs a (key_slots shape key))
    ∙ ap (λ r. unwrap_or (option_or (slot_plan shape es key) (option_or (move_plan shape es key) r)) plan.NoRoom) (row_alike shape key es fs a))

changed_alike : (change : Entry → Entry) (marked : KeyView) (es : List Entry) → ((e : Entry) → KeepsPlaces e (change e)) → Alike es (with_changed change marked es)
changed_alike change marked [] keeps = tt
changed_alike change marked (e ∷ es) keeps = (by (is_of marked e), changed_alike change marked es keeps)
  where
    by : (b : Bool) → KeepsPlaces e (cond b (change e) e)
    by true = keeps e
    by false = itself e

pub marked_plan : (shape : Shape) (es : List Entry) (change : Entry → Entry) (marked key : KeyView) → ((e : Entry) → KeepsPlaces e (change e)) → first_plan shape (with_changed change marked es) key ≡ first_plan shape es key
marked_plan shape es change marked key keeps = plan_alike shape key es (with_changed change marked es) (changed_alike change marked es keeps)
