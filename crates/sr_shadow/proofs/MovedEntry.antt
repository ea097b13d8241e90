-- A planned move makes room for the key that is planned.
use Rattle.std.proofs.Common.{◌≡◌, ◌==◌, ℕ, suc, Bool, true, false, cond, ◌&&◌, ◌||◌, not, List, [], ◌∷◌, ◌++◌, find, Option, None, Some, option_map, refl, sym, ◌∙◌, ap, subst, true≢false, arith}
use Rattle.std.proofs.lemmas.Bool.{and_from, and_parts, not-true, or_parts}
use Rattle.std.proofs.lemmas.List.Folds.{list_any-append}
use Rattle.std.specs.Prelude.{IfSome, is_none, slice_get}
use Rattle.std.specs.List.{list_all, list_any}
use Rattle.std.specs.Option.{option_or}
use Rattle.sr_base.specs.Key.{KeyView, same_key}
use Rattle.sr_base.specs.declared.place.Place.{Place}
use Rattle.sr_base.specs.declared.place.Place.TheVariants.{Slot, Row}
use Rattle.sr_base.specs.declared.shape.Shape.{Shape}
use Rattle.sr_hash.specs.Clash.{clashes}
use Rattle.sr_hash.specs.Uses.{is_place_of}
use Rattle.sr_shadow.specs.Book.{DistinctKeys, entry_for, holder_of, is_clashing, is_registered, is_rival, with_changed}
use Rattle.sr_shadow.specs.Entry.{fresh, is_at, is_of, is_outside, is_row, is_slot, left_other, settled}
use Rattle.sr_shadow.specs.Plan.{AllClearBut, IsUnplaced, KeepsPlaces, clashes_at, entry_at, first_move, first_plan, first_usable, is_clear, is_clear_but, is_free, is_mistaken, is_mistaken_but, is_usable, key_slots, move_at, move_from, move_if_clear, move_to, moved, other_way, slot_if_clear, slot_then, slots_of, target, with_key, with_moved}
use Rattle.sr_shadow.specs.declared.entry.Entry.{Entry}
use Rattle.sr_shadow.specs.declared.plan.Plan.{Plan}
use Rattle.sr_shadow.specs.declared.plan.Plan.TheVariants as plan
use Rattle.sr_shadow.specs.Moves.{IsMover, NonePlaced}
use Rattle.sr_base.proofs.Sameness.{same_key-true, same_key-sym, same_place-true}
use Rattle.sr_shadow.proofs.Splits.{registered_none, some_same}
use Rattle.sr_shadow.proofs.Gives.{found_own_in, key_slots_own, other_way_one, usable_is_free}
use Rattle.sr_shadow.proofs.Holding.{found_any, found_own, none_placed}
use Rattle.sr_shadow.proofs.Later.{move_first, slot_is_first}
use Rattle.sr_shadow.proofs.Marking.{Alike, plan_alike}
use Rattle.sr_shadow.proofs.Moving.{counted_holder, counted_rivals, slot_mover}
use Rattle.sr_shadow.proofs.PlannedSlot.{clashes-sym, each_clear, get_mapped}
use Rattle.sr_shadow.proofs.Finding.{found_passes}

-- what a planned move is
pub record IsMove (shape : Shape) (es : List Entry) (key other : KeyView) (from to last : Place) : Type 0 where
  pub way : ℕ
  pub entry : Entry
  pub found : entry_at from es ≡ Some entry
  pub own : entry.key ≡ other
  pub goal : target shape es key other way ≡ Some to
  pub goal_own : is_place_of shape other to ≡ true
  pub from_slot : is_slot from ≡ true
  pub from_own : is_place_of shape key from ≡ true
  pub clear : is_clear_but shape es key other ≡ true
  pub slot : slot_then shape es key other to ≡ Some last
  pub mover : DistinctKeys es → NonePlaced key es → IsMover key entry es

abbrev IsMoved : Shape → List Entry → KeyView → Plan → Type 0
IsMoved shape es key (plan.Slot place) = Unit {0}
IsMoved shape es key (plan.Move other from to last) = IsMove shape es key other from to last
IsMoved shape es key (plan.FullKey row) = Unit {0}
IsMoved shape es key plan.NoRoom = Unit {0}

some_plan : (a b : Plan) → Some a ≡ Some b → a ≡ b
some_plan a b e = grind arith

move_is : (shape : Shape) (es : List Entry) (key : KeyView) (slot : Place) (p : Plan) → is_place_of shape key slot ≡ true → move_from shape es key slot ≡ Some p → IsMoved shape es key p
move_is shape es key (Row row) p mine h = absurd cc
move_is shape es key (Slot way bucket cell) p mine h = by (entry_at (Slot way bucket cell) es) refl h
  where
    last : (e : Entry) (to : Place) (b : Bool) (o : Option Place) → entry_at (Slot way bucket cell) es ≡ Some e → target shape es key e.key (other_way way) ≡ Some to
        → is_clear_but shape es key e.key ≡ b → slot_then shape es key e.key to ≡ o → move_if_clear b e.key (Slot way bucket cell) to o ≡ Some p → IsMoved shape es key p
    last e to b None found goal clear slot h = absurd cc
    last e to false (Some place) found goal clear slot h = absurd cc
    last e to true (Some place) found goal clear slot h = subst (IsMoved shape es key) (some_plan _ p h)
        (record { way = other_way way; entry = e; found = found; own = refl; goal = goal; goal_own = found_own_in (is_usable shape (with_key key es) e.key) shape (other_way way) e.key to (other_way_one way) goal; from_slot = refl; from_own = mine; clear = clear; slot = slot; mover = λ distinct none. slot_mover es key e way bucket cell none found (found_own (λ x. is_at (Slot way bucket cell) x.place) es e distinct found) })

    there : (e : Entry) (o : Option Place) → entry_at (Slot way bucket cell) es ≡ Some e → target shape es key e.key (other_way way) ≡ o
        → move_to shape es key e.key (Slot way bucket cell) o ≡ Some p → IsMoved shape es key p
    there e None found goal h = absurd cc
    there e (Some to) found goal h = last e to (is_clear_but shape es key e.key) (slot_then shape es key e.key to) found goal refl refl h

    by : (o : Option Entry) → entry_at (Slot way bucket cell) es ≡ o → move_at shape es key way (Slot way bucket cell) o ≡ Some p → IsMoved shape es key p
    by None found h = absurd cc
    by (Some e) found h = there e (target shape es key e.key (other_way way)) found refl h

first_is : (shape : Shape) (es : List Entry) (key : KeyView) (places : List Place) (p : Plan) → list_all (is_place_of shape key) places ≡ true → first_move shape es key places ≡ Some p → IsMoved shape es key p
first_is shape es key [] p own h = absurd cc
first_is shape es key (slot ∷ places) p own h = by (move_from shape es key slot) refl (first_is shape es key places p (and_parts (is_place_of shape key slot) (list_all (is_place_of shape key) places) own).1) h
  where
    by : (o : Option Plan) → move_from shape es key slot ≡ o → (first_move shape es key places ≡ Some p → IsMoved shape es key p) → option_or o (first_move shape es key places) ≡ Some p → IsMoved shape es key p
    by None found later h = later h
    by (Some q) found later h = move_is shape es key slot p (and_parts (is_place_of shape key slot) (list_all (is_place_of shape key) places) own).0 (found ∙ h)

pub planned_move : (shape : Shape) (es : List Entry) (key other : KeyView) (from to last : Place) → first_plan shape es key ≡ plan.Move other from to last → IsMove shape es key other from to last
planned_move shape es key other from to last h = first_is shape es key (key_slots shape key) (plan.Move other from to last) (key_slots_own shape key) (move_first shape es key other from to last h)

-- the entry's new slot is usable for it, where the planned key counts as registered
pub goal_usable : (shape : Shape) (es : List Entry) (key other : KeyView) (from to last : Place) → IsMove shape es key other from to last → is_usable shape (with_key key es) other to ≡ true
goal_usable shape es key other from to last m = found_passes (is_usable shape (with_key key es) other) (slots_of shape m.way other) to m.goal

pub goal_free : (shape : Shape) (es : List Entry) (key other : KeyView) (from to last : Place) → first_plan shape es key ≡ plan.Move other from to last → holder_of to es ≡ None
goal_free shape es key other from to last h =
    sym (counted_holder to es key) ∙ usable_is_free shape (with_key key es) other to (goal_usable shape es key other from to last (planned_move shape es key other from to last h))

-- a key without a Live place that counts as registered clashes with none for which it is no rival
apart_key : (shape : Shape) (way : ℕ) (k key : KeyView) (es : List Entry) → IsUnplaced key es → same_key k key ≡ false → is_clashing shape way k (with_key key es) ≡ false → clashes shape way k key ≡ false
apart_key shape way k key es unplaced apart h = by (is_registered key es) (entry_for key es) refl refl unplaced h
  where
    bare : (a b c : Bool) → a ≡ true → b ≡ false → (a && (not b && c)) ≡ false → c ≡ false
    bare true false c s t h = h
    bare true true c s t h = absurd cc
    bare false b c s t h = absurd cc

    unpassed : (b : Bool) → (b ≡ true → ⊥) → b ≡ false
    unpassed true h = absurd (h refl)
    unpassed false h = refl

    by : (b : Bool) (o : Option Entry) → is_registered key es ≡ b → entry_for key es ≡ o → IfSome o (λ e. e.place ≡ None) → is_clashing shape way k (cond b es (es ++ fresh key 0 0 ∷ [])) ≡ false
        → clashes shape way k key ≡ false
    by true None r found none h = absurd (true≢false (sym r ∙ registered_none key es found))
    by true (Some e) r found none h =
        let own : key ≡ e.key = same_key-true key e.key (found_passes (is_of key) es e found) in
        let unlike : is_rival shape way k e ≡ false = unpassed (is_rival shape way k e) (λ t. true≢false (sym (found_any (is_of key) (is_rival shape way k) es e found t) ∙ h)) in
        subst (λ y. clashes shape way k y ≡ false) (sym own)
        (bare (not (is_row e.place)) (is_of k e) (clashes shape way k e.key) (ap (λ p. not (is_row p)) none) (subst (λ y. same_key k y ≡ false) own apart) unlike)
    by false o r found none h =
        let parts = or_parts _ _ (sym (list_any-append (is_rival shape way k) es (fresh key 0 0 ∷ [])) ∙ h) in
        bare true (same_key k key) (clashes shape way k key) refl apart (or_parts _ _ parts.1).0

-- so the planned key's packets aren't taken for the entry's in its new slot
goal_apart : (shape : Shape) (es : List Entry) (key other : KeyView) (to : Place) → IsUnplaced key es → is_usable shape (with_key key es) other to ≡ true
    → (not (same_key key other) && clashes_at shape key other (Some to)) ≡ false
goal_apart shape es key other (Row row) unplaced usable = absurd cc
goal_apart shape es key other (Slot way bucket cell) unplaced usable = by (same_key key other) refl
  where
    shut : (a c : Bool) → c ≡ false → (a && c) ≡ false
    shut true c e = e
    shut false c e = refl

    by : (b : Bool) → same_key key other ≡ b → (not b && clashes_at shape key other (Some (Slot way bucket cell))) ≡ false
    by true t = refl
    by false t = shut ((way == 1) || (way == 2)) (clashes shape way key other)
        (clashes-sym shape way key other ∙ apart_key shape way other key es unplaced (same_key-sym other key ∙ t) (not-true _ (and_parts _ _ usable).1))

moved_clear : (shape : Shape) (es : List Entry) (key other : KeyView) (to : Place) → (not (same_key key other) && clashes_at shape key other (Some to)) ≡ false
    → list_any (is_mistaken_but shape key other) es ≡ false → list_any (is_mistaken shape key) (with_moved other to es) ≡ false
moved_clear shape [] key other to apart h = refl
moved_clear shape (x ∷ xs) key other to apart h = by (is_of other x) refl (or_parts _ _ h).0 (moved_clear shape xs key other to apart (or_parts _ _ h).1)
  where
    by : (b : Bool) → is_of other x ≡ b → (not b && is_mistaken shape key x) ≡ false → list_any (is_mistaken shape key) (with_moved other to xs) ≡ false
        → (is_mistaken shape key (cond b (moved to x) x) || list_any (is_mistaken shape key) (with_moved other to xs)) ≡ false
    by true t bare more =
        let own : other ≡ x.key = same_key-true other x.key t in
        ap (λ b. b || list_any (is_mistaken shape key) (with_moved other to xs)) (subst (λ y. (not (same_key key y) && clashes_at shape key y (Some to)) ≡ false) own apart) ∙ more
    by false t bare more = ap (λ b. b || list_any (is_mistaken shape key) (with_moved other to xs)) bare ∙ more

moved_plan : (shape : Shape) (es : List Entry) (key other : KeyView) (from to last : Place) → first_plan shape es key ≡ plan.Move other from to last → IsUnplaced key es
    → first_plan shape (with_moved other to es) key ≡ plan.Slot last
moved_plan shape es key other from to last h unplaced =
    let m = planned_move shape es key other from to last h in
    let apart = goal_apart shape es key other to unplaced (goal_usable shape es key other from to last m) in
    let clear : is_clear shape (with_moved other to es) key ≡ true = ap not (moved_clear shape es key other to apart (not-true _ m.clear)) in
    slot_is_first shape (with_moved other to es) key last
    (ap (λ b. slot_if_clear b (first_usable shape (with_moved other to es) key (key_slots shape key))) clear ∙ ap (slot_if_clear true) m.slot)

-- settled there, and gone from its own slot
gone_alike : (other : KeyView) (to : Place) (es : List Entry) → Alike (with_moved other to es) (with_changed left_other other (with_changed (settled to) other es))
gone_alike other to [] = tt
gone_alike other to (x ∷ xs) = (by (is_of other x) refl, gone_alike other to xs)
  where
    by : (b : Bool) → is_of other x ≡ b → KeepsPlaces (cond b (moved to x) x) (cond (is_of other (cond b (settled to x) x)) (left_other (cond b (settled to x) x)) (cond b (settled to x) x))
    by true t = rw t (record { key = refl; place = refl; also = refl })
    by false t = rw t (record { key = refl; place = refl; also = refl })

pub room_made : (shape : Shape) (es : List Entry) (key other : KeyView) (from to last : Place) → first_plan shape es key ≡ plan.Move other from to last → IsUnplaced key es
    → first_plan shape (with_changed left_other other (with_changed (settled to) other es)) key ≡ plan.Slot last
room_made shape es key other from to last h unplaced = plan_alike shape key _ _ (gone_alike other to es) ∙ moved_plan shape es key other from to last h unplaced

-- ---- the keys that are clear

-- the entry that moves is its key's, and is Live at the slot that it leaves
pub mover_at : (shape : Shape) (es : List Entry) (key other : KeyView) (from to last : Place) → first_plan shape es key ≡ plan.Move other from to last → DistinctKeys es
    → (e : Entry) × (entry_for other es ≡ Some e) × (e.place ≡ Some from)
mover_at shape es key other from to last h distinct =
    let m = planned_move shape es key other from to last h in
    let own : entry_for m.entry.key es ≡ Some m.entry = found_own (λ x. is_at from x.place) es m.entry distinct m.found in
    (m.entry, subst (λ k. entry_for k es ≡ Some m.entry) m.own own, there m.entry.place (found_passes (λ x. is_at from x.place) es m.entry m.found))
  where
    there : (p : Option Place) → is_at from p ≡ true → p ≡ Some from
    there None t = absurd cc
    there (Some place) t = ap Some (sym (same_place-true from place t))

found_index : (p : Entry → Bool) (es : List Entry) (e : Entry) → find p es ≡ Some e → (i : ℕ) × (slice_get es i ≡ Some e)
found_index p [] e h = absurd cc
found_index p (x ∷ xs) e h = by (p x) (found_index p xs e) h
  where
    by : (b : Bool) → (find p xs ≡ Some e → (i : ℕ) × (slice_get xs i ≡ Some e)) → cond b (Some x) (find p xs) ≡ Some e → (i : ℕ) × (slice_get (x ∷ xs) i ≡ Some e)
    by true more h = (0, h)
    by false more h = let rest = more h in (suc rest.0, rest.1)

-- what is usable where the planned key counts as registered is so without it
plain_usable : (shape : Shape) (es : List Entry) (key other : KeyView) (place : Place) → NonePlaced key es → same_key other key ≡ false → is_usable shape (with_key key es) other place ≡ true
    → is_usable shape es other place ≡ true
plain_usable shape es key other (Row row) none apart usable = absurd cc
plain_usable shape es key other (Slot way bucket cell) none apart usable =
    let parts = and_parts (is_free (with_key key es) (Slot way bucket cell)) (not (is_clashing shape way other (with_key key es))) usable in
    let rivals = or_parts _ _ (sym (counted_rivals shape way other key es none apart) ∙ not-true _ parts.1) in
    and_from _ _ (ap is_none (sym (counted_holder (Slot way bucket cell) es key)) ∙ parts.0) (ap not rivals.0)

settled_apart : (shape : Shape) (es : List Entry) (key other : KeyView) (from to last : Place) → first_plan shape es key ≡ plan.Move other from to last → DistinctKeys es → IsUnplaced key es
    → AllClearBut key shape es → AllClearBut key shape (with_changed (settled to) other es)
settled_apart shape es key other from to last h distinct unplaced clear i e at apart out =
    let m = planned_move shape es key other from to last h in
    let none = none_placed key es distinct unplaced in
    let mover = m.mover distinct none in
    let index = found_index (λ x. is_at from x.place) es m.entry m.found in
    let mine : is_clear shape es m.entry.key ≡ true = clear index.0 m.entry index.1 (same_key-sym key m.entry.key ∙ mover.other) mover.outside in
    let usable = plain_usable shape es key other to none (subst (λ k. same_key k key ≡ false) m.own mover.other) (goal_usable shape es key other from to last m) in
    each_clear shape es other to i e (subst (λ k. is_clear shape es k ≡ true) m.own mine) usable
    (λ x found t it. clear i x found (subst (λ y. is_of key y ≡ false) (sym it) apart) (subst (λ y. is_outside y ≡ true) (sym it) out)) at out

-- leaving another place makes no difference
mistaken_left : (shape : Shape) (k other : KeyView) (es : List Entry) → list_any (is_mistaken shape k) (with_changed left_other other es) ≡ list_any (is_mistaken shape k) es
mistaken_left shape k other [] = refl
mistaken_left shape k other (x ∷ xs) = by (is_of other x) (mistaken_left shape k other xs)
  where
    by : (b : Bool) → list_any (is_mistaken shape k) (with_changed left_other other xs) ≡ list_any (is_mistaken shape k) xs
        → (is_mistaken shape k (cond b (left_other x) x) || list_any (is_mistaken shape k) (with_changed left_other other xs)) ≡ (is_mistaken shape k x || list_any (is_mistaken shape k) xs)
    by true more = ap (λ b. is_mistaken shape k x || b) more
    by false more = ap (λ b. is_mistaken shape k x || b) more

left_apart : (shape : Shape) (es : List Entry) (key other : KeyView) → AllClearBut key shape es → AllClearBut key shape (with_changed left_other other es)
left_apart shape es key other clear i e at apart out = by (slice_get es i) refl (sym (get_mapped (λ x. cond (is_of other x) (left_other x) x) es i) ∙ at)
  where
    same : (k : KeyView) → is_clear shape (with_changed left_other other es) k ≡ is_clear shape es k
    same k = ap not (mistaken_left shape k other es)

    of : (x : Entry) (b : Bool) → slice_get es i ≡ Some x → cond b (left_other x) x ≡ e → is_clear shape (with_changed left_other other es) e.key ≡ true
    of x true found it =
        subst (λ y. is_clear shape (with_changed left_other other es) y.key ≡ true) it
        (same x.key ∙ clear i x found (subst (λ y. is_of key y ≡ false) (sym it) apart) (subst (λ y. is_outside y ≡ true) (sym it) out))
    of x false found it =
        subst (λ y. is_clear shape (with_changed left_other other es) y.key ≡ true) it
        (same x.key ∙ clear i x found (subst (λ y. is_of key y ≡ false) (sym it) apart) (subst (λ y. is_outside y ≡ true) (sym it) out))

    by : (o : Option Entry) → slice_get es i ≡ o → option_map (λ x. cond (is_of other x) (left_other x) x) o ≡ Some e → is_clear shape (with_changed left_other other es) e.key ≡ true
    by None found h = absurd cc
    by (Some x) found h = of x (is_of other x) found (some_same _ e h)

pub moved_apart : (shape : Shape) (es : List Entry) (key other : KeyView) (from to last : Place) → first_plan shape es key ≡ plan.Move other from to last → DistinctKeys es → IsUnplaced key es
    → AllClearBut key shape es → AllClearBut key shape (with_changed left_other other (with_changed (settled to) other es))
moved_apart shape es key other from to last h distinct unplaced clear =
    left_apart shape (with_changed (settled to) other es) key other (settled_apart shape es key other from to last h distinct unplaced clear)
