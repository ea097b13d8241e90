-- A pending key that settles in a slot gives no plan to a key without one: whoever could be placed then could be placed before.
use Rattle.std.proofs.Common.{◌≡◌, ◌⊎◌, inl, inr, ℕ, Bool, true, false, cond, ◌&&◌, ◌||◌, not, List, [], ◌∷◌, ◌++◌, find, Option, None, Some, option_map, refl, sym, ◌∙◌, ap, subst, true≢false, arith}
use Rattle.std.proofs.lemmas.Bool.{and_from, and_parts, not-true, or_parts}
use Rattle.std.proofs.lemmas.Bool.Decides.{nat_tests}
use Rattle.std.proofs.lemmas.List.{map-append}
use Rattle.std.specs.Prelude.{is_none}
use Rattle.std.specs.List.{list_any}
use Rattle.std.specs.Option.{option_or}
use Rattle.sr_base.specs.Key.{KeyView, same_key}
use Rattle.sr_base.specs.Place.{same_place}
use Rattle.sr_base.specs.declared.place.Place.{Place}
use Rattle.sr_base.specs.declared.place.Place.TheVariants.{Slot, Row}
use Rattle.sr_base.specs.declared.shape.Shape.{Shape}
use Rattle.sr_hash.specs.Clash.{clashes}
use Rattle.sr_hash.specs.Uses.{bucket_of, is_place_of}
use Rattle.sr_shadow.specs.Book.{entry_for, is_clashing, is_registered, is_rival, with_changed, DistinctKeys}
use Rattle.sr_shadow.specs.Entry.{fresh, holds, is_at, is_of, is_row, is_slot, settled}
use Rattle.sr_shadow.specs.Plan.{clashes_at, entry_at, first_move, first_plan, first_usable, is_clear, is_clear_but, is_free, is_mistaken, is_mistaken_but, is_usable, key_rows, key_slots, move_at, move_from, move_if_clear, move_to, moved, moved_if, move_of, other_way, row_plan, slot_if_clear, slot_plan, slot_then, slots_of, target, with_key, with_moved}
use Rattle.sr_shadow.specs.declared.entry.Entry.{Entry}
use Rattle.sr_shadow.specs.declared.plan.Plan.{Plan}
use Rattle.sr_shadow.specs.declared.plan.Plan.TheVariants as plan
use Rattle.sr_base.proofs.Sameness.{same_key-true, same_key-self, same_place-true}
use Rattle.sr_shadow.proofs.Finding.{find_fewer, found_none, found_passes}
use Rattle.sr_shadow.proofs.Holding.{found_any}
use Rattle.sr_shadow.proofs.Later.{no_room_none, none_no_room}
use Rattle.sr_shadow.proofs.Moving.{counted_holder, fewer, free_any, holds_but, moved_any}
use Rattle.sr_shadow.proofs.Gives.{found_in_bucket, found_own_slot, in_bucket, in_one, none_in_bucket, usable_is_slot}
use Rattle.sr_shadow.proofs.Splits.{some_same}

-- each entry of the key is without a place
abbrev pub Bare : KeyView → List Entry → Type 0
Bare key [] = Unit {0}
Bare key (e ∷ es) = (is_of key e ≡ true → (e.place ≡ None) × (e.also ≡ None)) × Bare key es

-- where its one entry is
bare_none : (key : KeyView) (es : List Entry) → is_registered key es ≡ false → Bare key es
bare_none key [] h = tt
bare_none key (x ∷ xs) h = let parts = or_parts (is_of key x) (is_registered key xs) h in (λ own. absurd (true≢false (sym own ∙ parts.0)), bare_none key xs parts.1)

bare : (key : KeyView) (es : List Entry) (e : Entry) → DistinctKeys es → entry_for key es ≡ Some e → e.place ≡ None → e.also ≡ None → Bare key es
bare key [] e d found at also = tt
bare key (x ∷ xs) e d found at also = by (is_of key x) refl (λ f. bare key xs e d.1 f at also) found
  where
    by : (b : Bool) → is_of key x ≡ b → (entry_for key xs ≡ Some e → Bare key xs) → cond b (Some x) (entry_for key xs) ≡ Some e → Bare key (x ∷ xs)
    by true t more found =
        let it : x ≡ e = some_same x e found in
        let same : key ≡ x.key = same_key-true key x.key t in
        (λ own. (ap (λ (y : Entry). y.place) it ∙ at, ap (λ (y : Entry). y.also) it ∙ also), bare_none key xs (subst (λ k. is_registered k xs ≡ false) (sym same) d.0))
    by false t more found = (λ own. absurd (true≢false (sym own ∙ t)), more found)

-- the entries with the key's settled
abbrev there : KeyView → Place → List Entry → List Entry
there key place es = with_changed (settled place) key es

or_none : (a b : Bool) → a ≡ false → b ≡ false → (a || b) ≡ false
or_none a b p q = rw (p, q) refl

-- what no entry passes then, none passed before
none_before : (p q : Entry → Bool) (key : KeyView) (place : Place) (es : List Entry) → Bare key es
    → ((e : Entry) → is_of key e ≡ false → q e ≡ false → p e ≡ false)
    → ((e : Entry) → e.place ≡ None → e.also ≡ None → q (settled place e) ≡ false → p e ≡ false)
    → list_any q (there key place es) ≡ false → list_any p es ≡ false
none_before p q key place [] b kept own h = refl
none_before p q key place (x ∷ xs) b kept own h = by (is_of key x) refl (none_before p q key place xs b.1 kept own) h
  where
    by : (o : Bool) → is_of key x ≡ o → (list_any q (there key place xs) ≡ false → list_any p xs ≡ false) → (q (cond o (settled place x) x) || list_any q (there key place xs)) ≡ false → (p x || list_any p xs) ≡ false
    by true t more h =
        let parts = or_parts (q (settled place x)) (list_any q (there key place xs)) h in
        let none = b.0 t in
        or_none (p x) (list_any p xs) (own x none.0 none.1 parts.0) (more parts.1)
    by false t more h =
        let parts = or_parts (q x) (list_any q (there key place xs)) h in
        or_none (p x) (list_any p xs) (kept x t parts.0) (more parts.1)

holds_none : (place : Place) (e : Entry) → e.place ≡ None → e.also ≡ None → holds place e ≡ false
holds_none place e at also = ap (λ p. is_at place p || is_at place e.also) at ∙ ap (is_at place) also

-- a place that is free then was free
nobody_before : (key : KeyView) (place p : Place) (es : List Entry) → Bare key es → list_any (holds p) (there key place es) ≡ false → list_any (holds p) es ≡ false
nobody_before key place p es b h = none_before (holds p) (holds p) key place es b (λ e other t. t) (λ e at also t. holds_none p e at also) h

free_before : (key : KeyView) (place p : Place) (es : List Entry) → Bare key es → is_free (there key place es) p ≡ true → is_free es p ≡ true
free_before key place p es b h =
    free_any es p ∙ ap not (nobody_before key place p es b (not-true _ (sym (free_any (there key place es) p) ∙ h)))

-- an entry in a slot is outside the full-key table, as a pending one is
slot_outside : (place : Place) → is_slot place ≡ true → not (is_row (Some place)) ≡ true
slot_outside (Slot way bucket cell) s = refl
slot_outside (Row row) s = absurd cc

settled_rival : (shape : Shape) (way : ℕ) (k : KeyView) (place : Place) (e : Entry) → is_slot place ≡ true → e.place ≡ None → is_rival shape way k (settled place e) ≡ is_rival shape way k e
settled_rival shape way k place e s at =
    ap (λ b. b && (not (is_of k e) && clashes shape way k e.key)) (slot_outside place s ∙ sym (ap (λ p. not (is_row p)) at))

-- so the same keys clash
clashing_same : (shape : Shape) (way : ℕ) (k key : KeyView) (place : Place) (es : List Entry) → is_slot place ≡ true → Bare key es
    → is_clashing shape way k (there key place es) ≡ is_clashing shape way k es
clashing_same shape way k key place [] s b = refl
clashing_same shape way k key place (x ∷ xs) s b = by (is_of key x) refl (clashing_same shape way k key place xs s b.1)
  where
    by : (o : Bool) → is_of key x ≡ o → is_clashing shape way k (there key place xs) ≡ is_clashing shape way k xs
        → (is_rival shape way k (cond o (settled place x) x) || is_clashing shape way k (there key place xs)) ≡ (is_rival shape way k x || is_clashing shape way k xs)
    by true t more = ap (λ r. r || is_clashing shape way k (there key place xs)) (settled_rival shape way k place x s (b.0 t).0) ∙ ap (λ r. is_rival shape way k x || r) more
    by false t more = ap (λ r. is_rival shape way k x || r) more

-- a slot that is usable then was usable
usable_before : (shape : Shape) (k key : KeyView) (place p : Place) (es : List Entry) → is_slot place ≡ true → Bare key es
    → is_usable shape (there key place es) k p ≡ true → is_usable shape es k p ≡ true
usable_before shape k key place (Row row) es s b h = h
usable_before shape k key place (Slot way bucket cell) es s b h =
    let parts = and_parts (is_free (there key place es) (Slot way bucket cell)) (not (is_clashing shape way k (there key place es))) h in
    and_from (is_free es (Slot way bucket cell)) (not (is_clashing shape way k es)) (free_before key place (Slot way bucket cell) es b parts.0)
    (ap not (sym (clashing_same shape way k key place es s b)) ∙ parts.1)

usable_none : (shape : Shape) (k key : KeyView) (place : Place) (es : List Entry) (places : List Place) → is_slot place ≡ true → Bare key es
    → first_usable shape es k places ≡ None → first_usable shape (there key place es) k places ≡ None
usable_none shape k key place es places s b h =
    find_fewer (is_usable shape es k) (is_usable shape (there key place es) k) places (λ p t. usable_before shape k key place p es s b t) h

-- a key that is clear then was clear
not_both : (a : Bool) → (a && false) ≡ false
not_both true = refl
not_both false = refl

mistaken_none : (shape : Shape) (k : KeyView) (e : Entry) → e.place ≡ None → is_mistaken shape k e ≡ false
mistaken_none shape k e at = ap (λ p. not (is_of k e) && clashes_at shape k e.key p) at ∙ not_both (not (is_of k e))

clear_before : (shape : Shape) (k key : KeyView) (place : Place) (es : List Entry) → Bare key es → is_clear shape (there key place es) k ≡ true → is_clear shape es k ≡ true
clear_before shape k key place es b h =
    ap not (none_before (is_mistaken shape k) (is_mistaken shape k) key place es b (λ e other t. t) (λ e at also t. mistaken_none shape k e at) (not-true _ h))

clear_but_before : (shape : Shape) (k other key : KeyView) (place : Place) (es : List Entry) → Bare key es → is_clear_but shape (there key place es) k other ≡ true → is_clear_but shape es k other ≡ true
clear_but_before shape k other key place es b h =
    ap not (none_before (is_mistaken_but shape k other) (is_mistaken_but shape k other) key place es b (λ e apart t. t)
    (λ e at also t. ap (λ r. not (is_of other e) && r) (mistaken_none shape k e at) ∙ not_both (not (is_of other e))) (not-true _ h))

-- ---- a slot, a row

slot_none : (shape : Shape) (k key : KeyView) (place : Place) (es : List Entry) → is_slot place ≡ true → Bare key es → slot_plan shape es k ≡ None → slot_plan shape (there key place es) k ≡ None
slot_none shape k key place es s b h = by (first_usable shape es k (key_slots shape k)) refl h
  where
    unclear : (o : Option Place) → slot_if_clear false o ≡ None
    unclear None = refl
    unclear (Some p) = refl

    clear_none : (c : Bool) → is_clear shape (there key place es) k ≡ c → is_clear shape es k ≡ false → slot_if_clear c (first_usable shape (there key place es) k (key_slots shape k)) ≡ None
    clear_none true t f = absurd (true≢false (sym (clear_before shape k key place es b t) ∙ f))
    clear_none false t f = unclear (first_usable shape (there key place es) k (key_slots shape k))

    clouded : (c : Bool) (p : Place) → is_clear shape es k ≡ c → slot_if_clear c (Some p) ≡ None → is_clear shape es k ≡ false
    clouded true p t h = absurd cc
    clouded false p t h = t

    by : (o : Option Place) → first_usable shape es k (key_slots shape k) ≡ o → slot_if_clear (is_clear shape es k) o ≡ None → slot_plan shape (there key place es) k ≡ None
    by None f h = ap (slot_if_clear (is_clear shape (there key place es) k)) (usable_none shape k key place es (key_slots shape k) s b f)
    by (Some p) f h = clear_none (is_clear shape (there key place es) k) refl (clouded (is_clear shape es k) p refl h)

rows_fewer : (p q : ℕ → Bool) (xs : List ℕ) → ((x : ℕ) → q x ≡ true → p x ≡ true) → option_map plan.FullKey (find p xs) ≡ None → option_map plan.FullKey (find q xs) ≡ None
rows_fewer p q [] le h = refl
rows_fewer p q (x ∷ xs) le h = by (p x) (q x) refl refl (rows_fewer p q xs le) h
  where
    by : (a b : Bool) → p x ≡ a → q x ≡ b → (option_map plan.FullKey (find p xs) ≡ None → option_map plan.FullKey (find q xs) ≡ None) → option_map plan.FullKey (cond a (Some x) (find p xs)) ≡ None → option_map plan.FullKey (cond b (Some x) (find q xs)) ≡ None
    by true b s t more h = absurd cc
    by false true s t more h = absurd (true≢false (sym (le x t) ∙ s))
    by false false s t more h = more h

row_none : (shape : Shape) (k key : KeyView) (place : Place) (es : List Entry) → Bare key es → row_plan shape es k ≡ None → row_plan shape (there key place es) k ≡ None
row_none shape k key place es b h =
    rows_fewer (λ row. is_free es (Row row)) (λ row. is_free (there key place es) (Row row)) (key_rows shape k) (λ row t. free_before key place (Row row) es b t) h

-- ---- the entry that moves

-- its slot was its Live place, or it is the key's
at_before : (key : KeyView) (place slot : Place) (es : List Entry) (x : Entry) → Bare key es → entry_at slot (there key place es) ≡ Some x
    → ((e : Entry) × (entry_at slot es ≡ Some e) × (e.key ≡ x.key)) ⊎ (is_of key x ≡ true)
at_before key place slot [] x b h = absurd cc
at_before key place slot (y ∷ ys) x b h = by (is_of key y) refl (at_before key place slot ys x b.1) h
  where
    skip : is_at slot y.place ≡ false → ((e : Entry) × (entry_at slot ys ≡ Some e) × (e.key ≡ x.key)) ⊎ (is_of key x ≡ true)
        → ((e : Entry) × (entry_at slot (y ∷ ys) ≡ Some e) × (e.key ≡ x.key)) ⊎ (is_of key x ≡ true)
    skip t (inl r) = inl (r.0, ap (λ a. cond a (Some y) (entry_at slot ys)) t ∙ r.1, r.2)
    skip t (inr r) = inr r

    mine : (a : Bool) → is_of key y ≡ true → (entry_at slot (there key place ys) ≡ Some x → ((e : Entry) × (entry_at slot ys ≡ Some e) × (e.key ≡ x.key)) ⊎ (is_of key x ≡ true))
        → cond a (Some (settled place y)) (entry_at slot (there key place ys)) ≡ Some x → ((e : Entry) × (entry_at slot (y ∷ ys) ≡ Some e) × (e.key ≡ x.key)) ⊎ (is_of key x ≡ true)
    mine true t more h = inr (subst (λ (z : Entry). is_of key z ≡ true) (some_same (settled place y) x h) t)
    mine false t more h = skip (ap (is_at slot) (b.0 t).0) (more h)

    other : (a : Bool) → is_at slot y.place ≡ a → (entry_at slot (there key place ys) ≡ Some x → ((e : Entry) × (entry_at slot ys ≡ Some e) × (e.key ≡ x.key)) ⊎ (is_of key x ≡ true))
        → cond a (Some y) (entry_at slot (there key place ys)) ≡ Some x → ((e : Entry) × (entry_at slot (y ∷ ys) ≡ Some e) × (e.key ≡ x.key)) ⊎ (is_of key x ≡ true)
    other true t more h = inl (y, ap (λ a. cond a (Some y) (entry_at slot ys)) t, ap (λ (z : Entry). z.key) (some_same y x h))
    other false t more h = skip t (more h)

    by : (o : Bool) → is_of key y ≡ o → (entry_at slot (there key place ys) ≡ Some x → ((e : Entry) × (entry_at slot ys ≡ Some e) × (e.key ≡ x.key)) ⊎ (is_of key x ≡ true))
        → entry_at slot (cond o (settled place y) y ∷ there key place ys) ≡ Some x → ((e : Entry) × (entry_at slot (y ∷ ys) ≡ Some e) × (e.key ≡ x.key)) ⊎ (is_of key x ≡ true)
    by true t more h = mine (is_at slot (Some place)) t more h
    by false t more h = other (is_at slot y.place) refl more h

-- the list in which another key counts as registered
registered_there : (k key : KeyView) (place : Place) (es : List Entry) → is_registered k (there key place es) ≡ is_registered k es
registered_there k key place [] = refl
registered_there k key place (x ∷ xs) = by (is_of key x) (registered_there k key place xs)
  where
    by : (o : Bool) → is_registered k (there key place xs) ≡ is_registered k xs → (is_of k (cond o (settled place x) x) || is_registered k (there key place xs)) ≡ (is_of k x || is_registered k xs)
    by true more = ap (λ r. is_of k x || r) more
    by false more = ap (λ r. is_of k x || r) more

counted_there : (k key : KeyView) (place : Place) (es : List Entry) → same_key key k ≡ false → with_key k (there key place es) ≡ there key place (with_key k es)
counted_there k key place es apart = ap (λ r. cond r (there key place es) (there key place es ++ fresh k 0 0 ∷ [])) (registered_there k key place es) ∙ by (is_registered k es)
  where
    by : (r : Bool) → cond r (there key place es) (there key place es ++ fresh k 0 0 ∷ []) ≡ there key place (cond r es (es ++ fresh k 0 0 ∷ []))
    by true = refl
    by false =
        sym (map-append (λ e. cond (is_of key e) (settled place e) e) es (fresh k 0 0 ∷ [])
        ∙ ap (λ r. there key place es ++ cond r (settled place (fresh k 0 0)) (fresh k 0 0) ∷ []) apart)

bare_more : (k key : KeyView) (es : List Entry) → same_key key k ≡ false → Bare key es → Bare key (es ++ fresh k 0 0 ∷ [])
bare_more k key [] apart b = (λ own. absurd (true≢false (sym own ∙ apart)), tt)
bare_more k key (x ∷ xs) apart b = (b.0, bare_more k key xs apart b.1)

bare_counted : (k key : KeyView) (es : List Entry) → same_key key k ≡ false → Bare key es → Bare key (with_key k es)
bare_counted k key es apart b = by (is_registered k es)
  where
    by : (r : Bool) → Bare key (cond r es (es ++ fresh k 0 0 ∷ []))
    by true = b
    by false = bare_more k key es apart b

-- ---- clashes once an entry has moved

both_rivals : (shape : Shape) (way : ℕ) (k : KeyView) (to from : Place) (e f : Entry) → is_slot to ≡ true → is_slot from ≡ true → f.key ≡ e.key → is_rival shape way k (moved to f) ≡ is_rival shape way k (moved from e)
both_rivals shape way k to from e f s t own =
    ap (λ b. b && (not (is_of k f) && clashes shape way k f.key)) (slot_outside to s ∙ sym (slot_outside from t))
    ∙ ap (λ y. not (is_row (Some from)) && (not (same_key k y) && clashes shape way k y)) own

settled_moves : (shape : Shape) (way : ℕ) (k : KeyView) (place to from : Place) (e : Entry) (m : Bool) → is_slot place ≡ true → is_slot to ≡ true → is_slot from ≡ true → e.place ≡ None
    → is_rival shape way k (cond m (moved to (settled place e)) (settled place e)) ≡ is_rival shape way k (cond m (moved from e) e)
settled_moves shape way k place to from e true s t f at = both_rivals shape way k to from e (settled place e) t f refl
settled_moves shape way k place to from e false s t f at = settled_rival shape way k place e s at

other_moves : (shape : Shape) (way : ℕ) (k : KeyView) (to from : Place) (e : Entry) (m : Bool) → is_slot to ≡ true → is_slot from ≡ true
    → is_rival shape way k (cond m (moved to e) e) ≡ is_rival shape way k (cond m (moved from e) e)
other_moves shape way k to from e true t f = both_rivals shape way k to from e e t f refl
other_moves shape way k to from e false t f = refl

-- to whichever slots
moved_same : (shape : Shape) (way : ℕ) (k key other : KeyView) (place to from : Place) (es : List Entry) → is_slot place ≡ true → is_slot to ≡ true → is_slot from ≡ true → Bare key es
    → is_clashing shape way k (with_moved other to (there key place es)) ≡ is_clashing shape way k (with_moved other from es)
moved_same shape way k key other place to from [] s t f b = refl
moved_same shape way k key other place to from (x ∷ xs) s t f b = by (is_of key x) refl (moved_same shape way k key other place to from xs s t f b.1)
  where
    by : (o : Bool) → is_of key x ≡ o → is_clashing shape way k (with_moved other to (there key place xs)) ≡ is_clashing shape way k (with_moved other from xs)
        → (is_rival shape way k (moved_if other to (cond o (settled place x) x)) || is_clashing shape way k (with_moved other to (there key place xs)))
        ≡ (is_rival shape way k (moved_if other from x) || is_clashing shape way k (with_moved other from xs))
    by true u more =
        ap (λ r. r || is_clashing shape way k (with_moved other to (there key place xs))) (settled_moves shape way k place to from x (is_of other x) s t f (b.0 u).0)
        ∙ ap (λ r. is_rival shape way k (moved_if other from x) || r) more
    by false u more =
        ap (λ r. r || is_clashing shape way k (with_moved other to (there key place xs))) (other_moves shape way k to from x (is_of other x) t f)
        ∙ ap (λ r. is_rival shape way k (moved_if other from x) || r) more

-- a pending entry that has moved clashes as before
moved_pending : (shape : Shape) (way : ℕ) (k key : KeyView) (to : Place) (es : List Entry) → is_slot to ≡ true → Bare key es → is_clashing shape way k (with_moved key to es) ≡ is_clashing shape way k es
moved_pending shape way k key to [] t b = refl
moved_pending shape way k key to (x ∷ xs) t b = by (is_of key x) refl (moved_pending shape way k key to xs t b.1)
  where
    by : (o : Bool) → is_of key x ≡ o → is_clashing shape way k (with_moved key to xs) ≡ is_clashing shape way k xs
        → (is_rival shape way k (cond o (moved to x) x) || is_clashing shape way k (with_moved key to xs)) ≡ (is_rival shape way k x || is_clashing shape way k xs)
    by true u more = ap (λ r. r || is_clashing shape way k (with_moved key to xs)) (settled_rival shape way k to x t (b.0 u).0) ∙ ap (λ r. is_rival shape way k x || r) more
    by false u more = ap (λ r. is_rival shape way k x || r) more

is_slot_found : (shape : Shape) (es : List Entry) (k : KeyView) (places : List Place) (p : Place) → first_usable shape es k places ≡ Some p → is_slot p ≡ true
is_slot_found shape es k places p h = usable_is_slot shape es k p (found_passes (is_usable shape es k) places p h)

-- ---- places once an entry has moved

same_place-sym : (a b : Place) → same_place a b ≡ same_place b a
same_place-sym (Slot w b c) (Slot v d e) = grind (arith, nat_tests)
same_place-sym (Slot w b c) (Row r) = refl
same_place-sym (Row r) (Slot w b c) = refl
same_place-sym (Row r) (Row s) = grind (arith, nat_tests)

-- who holds a free place: no other entry, and not the one that moved
free_parts : (k : KeyView) (to p : Place) (es : List Entry) → is_free (with_moved k to es) p ≡ true → ((is_registered k es && same_place p to) ≡ false) × (list_any (holds_but k p) es ≡ false)
free_parts k to p es h =
    or_parts (is_registered k es && same_place p to) (list_any (holds_but k p) es) (sym (moved_any es k to p) ∙ not-true _ (sym (free_any (with_moved k to es) p) ∙ h))

free_from : (k : KeyView) (to p : Place) (es : List Entry) → same_place p to ≡ false → list_any (holds_but k p) es ≡ false → is_free (with_moved k to es) p ≡ true
free_from k to p es apart none =
    free_any (with_moved k to es) p ∙ ap not (moved_any es k to p ∙ or_none (is_registered k es && same_place p to) (list_any (holds_but k p) es) (ap (λ b. is_registered k es && b) apart ∙ not_both (is_registered k es)) none)

others_before : (k key : KeyView) (place p : Place) (es : List Entry) → Bare key es → list_any (holds_but k p) (there key place es) ≡ false → list_any (holds_but k p) es ≡ false
others_before k key place p es b h =
    none_before (holds_but k p) (holds_but k p) key place es b (λ e other t. t) (λ e at also t. ap (λ r. not (is_of k e) && r) (holds_none p e at also) ∙ not_both (not (is_of k e))) h

-- ---- no move

-- a slot that the key would have with the other entry elsewhere is one that it would have had with it at another slot, if it isn't that one
left_usable : (shape : Shape) (es : List Entry) (key k other : KeyView) (place to before : Place) (way bucket cell : ℕ) → is_slot place ≡ true → is_slot to ≡ true → is_slot before ≡ true → Bare key es
    → is_clashing shape way k (with_moved other to (there key place es)) ≡ false → same_place (Slot way bucket cell) before ≡ false → list_any (holds_but other (Slot way bucket cell)) es ≡ false
    → is_usable shape (with_moved other before es) k (Slot way bucket cell) ≡ true
left_usable shape es key k other place to before way bucket cell s t f b clash apart none =
    and_from (is_free (with_moved other before es) (Slot way bucket cell)) (not (is_clashing shape way k (with_moved other before es))) (free_from other before (Slot way bucket cell) es apart none)
    (ap not (sym (moved_same shape way k key other place to before es s t f b) ∙ clash))

-- the last slot of the move that there would be, if the other entry would not have gone there
last_usable : (shape : Shape) (es : List Entry) (key k other : KeyView) (place to before last : Place) → is_slot place ≡ true → is_slot to ≡ true → is_slot before ≡ true → Bare key es
    → is_usable shape (with_moved other to (there key place es)) k last ≡ true → same_place last before ≡ false → is_usable shape (with_moved other before es) k last ≡ true
last_usable shape es key k other place to before (Row row) s t f b usable apart = absurd cc
last_usable shape es key k other place to before (Slot way bucket cell) s t f b usable apart =
    let parts = and_parts (is_free (with_moved other to (there key place es)) (Slot way bucket cell)) (not (is_clashing shape way k (with_moved other to (there key place es)))) usable in
    left_usable shape es key k other place to before way bucket cell s t f b (not-true _ parts.1) apart
    (others_before other key place (Slot way bucket cell) es b (free_parts other to (Slot way bucket cell) (there key place es) parts.0).1)

-- and else the slot to which the other entry would go now
goal_usable_then : (shape : Shape) (es : List Entry) (key k other : KeyView) (place to before last : Place) (way bucket : ℕ) → is_slot place ≡ true → is_slot to ≡ true → is_slot before ≡ true → Bare key es
    → is_registered other (there key place es) ≡ true → is_usable shape (with_moved other to (there key place es)) k last ≡ true → last ≡ before
    → in_bucket way bucket last ≡ true → in_bucket way bucket to ≡ true → is_usable shape (with_key k (there key place es)) other to ≡ true
    → is_usable shape (with_moved other before es) k to ≡ true
goal_usable_then shape es key k other place (Row row) before last way bucket s t f b known usable is here goal free = absurd cc
goal_usable_then shape es key k other place (Slot w c d) before (Row row) way bucket s t f b known usable is here goal free = absurd cc
goal_usable_then shape es key k other place (Slot w c d) before (Slot v g h) way bucket s t f b known usable is here goal free =
    let fs : List Entry = there key place es in
    let parts = and_parts (is_free (with_moved other (Slot w c d) fs) (Slot v g h)) (not (is_clashing shape v k (with_moved other (Slot w c d) fs))) usable in
    let held = free_parts other (Slot w c d) (Slot v g h) fs parts.0 in
    let not_to : same_place (Slot v g h) (Slot w c d) ≡ false = sym (ap (λ r. r && same_place (Slot v g h) (Slot w c d)) known) ∙ held.0 in
    let apart : same_place (Slot w c d) before ≡ false = subst (λ p. same_place (Slot w c d) p ≡ false) is (same_place-sym (Slot w c d) (Slot v g h) ∙ not_to) in
    let ways : v ≡ w = in_one way bucket v g h w c d here goal in
    let clash : is_clashing shape w k (with_moved other (Slot w c d) fs) ≡ false = subst (λ n. is_clashing shape n k (with_moved other (Slot w c d) fs) ≡ false) ways (not-true _ parts.1) in
    let open_there : is_free fs (Slot w c d) ≡ true = ap is_none (sym (counted_holder (Slot w c d) fs k)) ∙ (and_parts (is_free (with_key k fs) (Slot w c d)) _ free).0 in
    let nobody : list_any (holds (Slot w c d)) es ≡ false = nobody_before key place (Slot w c d) es b (not-true _ (sym (free_any fs (Slot w c d)) ∙ open_there)) in
    left_usable shape es key k other place (Slot w c d) before w c d s t f b clash apart
    (fewer (holds (Slot w c d)) (holds_but other (Slot w c d)) es (λ e u. (and_parts (not (is_of other e)) (holds (Slot w c d) e) u).1) nobody)

-- so there would have been a slot for the key
was_room : (shape : Shape) (es : List Entry) (key k other : KeyView) (place to before last : Place) (way : ℕ) → is_slot place ≡ true → Bare key es → is_registered other (there key place es) ≡ true
    → target shape (there key place es) k other way ≡ Some to → target shape es k other way ≡ Some before
    → slot_then shape (there key place es) k other to ≡ Some last → slot_then shape es k other before ≡ None → ⊥
was_room shape es key k other place to before last way s b known goal first room none =
    by (same_place last before) refl
  where
    usable : is_usable shape (with_moved other to (with_changed (settled place) key es)) k last ≡ true
    usable = found_passes (is_usable shape (with_moved other to (with_changed (settled place) key es)) k) (key_slots shape k) last room

    to_slot : is_slot to ≡ true
    to_slot = is_slot_found shape (with_key k (with_changed (settled place) key es)) other (slots_of shape way other) to goal

    before_slot : is_slot before ≡ true
    before_slot = is_slot_found shape (with_key k es) other (slots_of shape way other) before first

    by : (same : Bool) → same_place last before ≡ same → ⊥
    by false apart =
        found_none (is_usable shape (with_moved other before es) k) (is_usable shape (with_moved other to (with_changed (settled place) key es)) k) (key_slots shape k) last room
        (last_usable shape es key k other place to before last s to_slot before_slot b usable apart) none
    by true same =
        let is : last ≡ before = same_place-true last before same in
        let here : in_bucket way (bucket_of way other shape.buckets) last ≡ true =
        subst (λ p. in_bucket way (bucket_of way other shape.buckets) p ≡ true) (sym is) (found_in_bucket (is_usable shape (with_key k es) other) way (bucket_of way other shape.buckets) before first) in
        let there_to : in_bucket way (bucket_of way other shape.buckets) to ≡ true = found_in_bucket (is_usable shape (with_key k (with_changed (settled place) key es)) other) way (bucket_of way other shape.buckets) to goal in
        let own : is_place_of shape k last ≡ true = found_own_slot (is_usable shape (with_moved other to (with_changed (settled place) key es)) k) shape k last room in
        let nowhere = none_in_bucket (is_usable shape (with_moved other before es) k) shape k way (bucket_of way other shape.buckets) last here own none in
        found_none (is_usable shape (with_moved other before es) k) (is_usable shape (with_key k (with_changed (settled place) key es)) other) (slots_of shape way other) to goal
        (goal_usable_then shape es key k other place to before last way (bucket_of way other shape.buckets) s to_slot before_slot b known usable is here there_to
        (found_passes (is_usable shape (with_key k (with_changed (settled place) key es)) other) (slots_of shape way other) to goal)) nowhere

-- no move of an entry that was there before
then_none : (clear : Bool) (other : KeyView) (from to : Place) (o : Option Place) → clear ≡ true → move_if_clear clear other from to o ≡ None → o ≡ None
then_none clear other from to None t h = refl
then_none true other from to (Some last) t h = absurd cc
then_none false other from to (Some last) t h = absurd cc

kept_none : (shape : Shape) (es : List Entry) (key k other : KeyView) (place from : Place) (way : ℕ) → is_slot place ≡ true → Bare key es → same_key key k ≡ false → is_registered other (there key place es) ≡ true
    → move_to shape es k other from (target shape es k other way) ≡ None → move_to shape (there key place es) k other from (target shape (there key place es) k other way) ≡ None
kept_none shape es key k other place from way s b apart known none = by_goal (target shape (with_changed (settled place) key es) k other way) refl
  where
    was : (to last : Place) → target shape (with_changed (settled place) key es) k other way ≡ Some to → slot_then shape (with_changed (settled place) key es) k other to ≡ Some last
        → is_clear_but shape (with_changed (settled place) key es) k other ≡ true → (o : Option Place) → target shape es k other way ≡ o → ⊥
    was to last goal room clear None first =
        let gone : target shape (with_changed (settled place) key es) k other way ≡ None =
        ap (λ l. first_usable shape l other (slots_of shape way other)) (counted_there k key place es apart) ∙ usable_none shape other key place (with_key k es) (slots_of shape way other) s (bare_counted k key es apart b) first in
        let bad : None ≡ Some to = sym gone ∙ goal in
        absurd cc
    was to last goal room clear (Some before) first =
        was_room shape es key k other place to before last way s b known goal first room
        (then_none (is_clear_but shape es k other) other from before (slot_then shape es k other before) (clear_but_before shape k other key place es b clear) (sym (ap (move_to shape es k other from) first) ∙ none))

    by_clear : (to last : Place) → target shape (with_changed (settled place) key es) k other way ≡ Some to → slot_then shape (with_changed (settled place) key es) k other to ≡ Some last
        → (c : Bool) → is_clear_but shape (with_changed (settled place) key es) k other ≡ c → move_if_clear c other from to (Some last) ≡ None
    by_clear to last goal room true clear = absurd (was to last goal room clear (target shape es k other way) refl)
    by_clear to last goal room false clear = refl

    by_room : (to : Place) → target shape (with_changed (settled place) key es) k other way ≡ Some to → (o : Option Place) → slot_then shape (with_changed (settled place) key es) k other to ≡ o
        → move_if_clear (is_clear_but shape (with_changed (settled place) key es) k other) other from to o ≡ None
    by_room to goal None room = refl
    by_room to goal (Some last) room = by_clear to last goal room (is_clear_but shape (with_changed (settled place) key es) k other) refl

    by_goal : (o : Option Place) → target shape (with_changed (settled place) key es) k other way ≡ o → move_to shape (with_changed (settled place) key es) k other from o ≡ None
    by_goal None goal = refl
    by_goal (Some to) goal = by_room to goal (slot_then shape (with_changed (settled place) key es) k other to) refl

-- no move of the entry that settled: without it the key had a slot already
before_usable : (shape : Shape) (es : List Entry) (key k : KeyView) (place to last : Place) → is_slot place ≡ true → is_slot to ≡ true → Bare key es
    → is_usable shape (with_moved key to (there key place es)) k last ≡ true → is_usable shape es k last ≡ true
before_usable shape es key k place to (Row row) s t b usable = absurd cc
before_usable shape es key k place to (Slot way bucket cell) s t b usable =
    let fs : List Entry = there key place es in
    let parts = and_parts (is_free (with_moved key to fs) (Slot way bucket cell)) (not (is_clashing shape way k (with_moved key to fs))) usable in
    let others = (free_parts key to (Slot way bucket cell) fs parts.0).1 in
    let nobody : list_any (holds (Slot way bucket cell)) es ≡ false =
    none_before (holds (Slot way bucket cell)) (holds_but key (Slot way bucket cell)) key place es b
    (λ e other u. sym (ap (λ r. not r && holds (Slot way bucket cell) e) other) ∙ u) (λ e at also u. holds_none (Slot way bucket cell) e at also) others in
    let same : is_clashing shape way k es ≡ is_clashing shape way k (with_moved key to fs) =
    sym (moved_pending shape way k key to es t b) ∙ sym (moved_same shape way k key key place to to es s t t b) in
    and_from (is_free es (Slot way bucket cell)) (not (is_clashing shape way k es)) (free_any es (Slot way bucket cell) ∙ ap not nobody) (ap not same ∙ parts.1)

before_clear : (shape : Shape) (es : List Entry) (key k : KeyView) (place : Place) → Bare key es → is_clear_but shape (there key place es) k key ≡ true → is_clear shape es k ≡ true
before_clear shape es key k place b h =
    ap not (none_before (is_mistaken shape k) (is_mistaken_but shape k key) key place es b (λ e other u. sym (ap (λ r. not r && is_mistaken shape k e) other) ∙ u) (λ e at also u. mistaken_none shape k e at) (not-true _ h))

slot_then_none : (clear : Bool) (o : Option Place) → clear ≡ true → slot_if_clear clear o ≡ None → o ≡ None
slot_then_none clear None t h = refl
slot_then_none true (Some p) t h = absurd cc
slot_then_none false (Some p) t h = absurd cc

own_none : (shape : Shape) (es : List Entry) (key k : KeyView) (place from : Place) (way : ℕ) → is_slot place ≡ true → Bare key es → slot_plan shape es k ≡ None
    → move_to shape (there key place es) k key from (target shape (there key place es) k key way) ≡ None
own_none shape es key k place from way s b none = by_goal (target shape (with_changed (settled place) key es) k key way) refl
  where
    by_clear : (to last : Place) → is_slot to ≡ true → slot_then shape (with_changed (settled place) key es) k key to ≡ Some last → (c : Bool) → is_clear_but shape (with_changed (settled place) key es) k key ≡ c
        → move_if_clear c key from to (Some last) ≡ None
    by_clear to last t room true clear =
        let usable = found_passes (is_usable shape (with_moved key to (with_changed (settled place) key es)) k) (key_slots shape k) last room in
        absurd (found_none (is_usable shape es k) (is_usable shape (with_moved key to (with_changed (settled place) key es)) k) (key_slots shape k) last room
        (before_usable shape es key k place to last s t b usable)
        (slot_then_none (is_clear shape es k) (first_usable shape es k (key_slots shape k)) (before_clear shape es key k place b clear) none))
    by_clear to last t room false clear = refl

    by_room : (to : Place) → is_slot to ≡ true → (o : Option Place) → slot_then shape (with_changed (settled place) key es) k key to ≡ o
        → move_if_clear (is_clear_but shape (with_changed (settled place) key es) k key) key from to o ≡ None
    by_room to t None room = refl
    by_room to t (Some last) room = by_clear to last t room (is_clear_but shape (with_changed (settled place) key es) k key) refl

    by_goal : (o : Option Place) → target shape (with_changed (settled place) key es) k key way ≡ o → move_to shape (with_changed (settled place) key es) k key from o ≡ None
    by_goal None goal = refl
    by_goal (Some to) goal =
        by_room to (is_slot_found shape (with_key k (with_changed (settled place) key es)) key (slots_of shape way key) to goal) (slot_then shape (with_changed (settled place) key es) k key to) refl

-- of either
move_none_from : (shape : Shape) (es : List Entry) (key k : KeyView) (place slot : Place) → is_slot place ≡ true → Bare key es → same_key key k ≡ false → slot_plan shape es k ≡ None
    → move_from shape es k slot ≡ None → move_from shape (there key place es) k slot ≡ None
move_none_from shape es key k place (Row row) s b apart none h = refl
move_none_from shape es key k place (Slot way bucket cell) s b apart none h = by (entry_at (Slot way bucket cell) (with_changed (settled place) key es)) refl
  where
    then : (x : Entry) → entry_at (Slot way bucket cell) (with_changed (settled place) key es) ≡ Some x
        → ((e : Entry) × (entry_at (Slot way bucket cell) es ≡ Some e) × (e.key ≡ x.key)) ⊎ (is_of key x ≡ true)
        → move_of shape (with_changed (settled place) key es) k x.key way (Slot way bucket cell) ≡ None
    then x found (inl e) =
        let known : is_registered x.key (with_changed (settled place) key es) ≡ true =
        found_any (λ y. is_at (Slot way bucket cell) y.place) (is_of x.key) (with_changed (settled place) key es) x found (same_key-self x.key) in
        let was : move_of shape es k x.key way (Slot way bucket cell) ≡ None =
        subst (λ o. move_of shape es k o way (Slot way bucket cell) ≡ None) e.2 (sym (ap (move_at shape es k way (Slot way bucket cell)) e.1) ∙ h) in
        kept_none shape es key k x.key place (Slot way bucket cell) (other_way way) s b apart known was
    then x found (inr own) =
        subst (λ o. move_of shape (with_changed (settled place) key es) k o way (Slot way bucket cell) ≡ None) (same_key-true key x.key own) (own_none shape es key k place (Slot way bucket cell) (other_way way) s b none)

    by : (o : Option Entry) → entry_at (Slot way bucket cell) (with_changed (settled place) key es) ≡ o → move_at shape (with_changed (settled place) key es) k way (Slot way bucket cell) o ≡ None
    by None found = refl
    by (Some x) found = then x found (at_before key place (Slot way bucket cell) es x b found)

move_none : (shape : Shape) (es : List Entry) (key k : KeyView) (place : Place) (slots : List Place) → is_slot place ≡ true → Bare key es → same_key key k ≡ false → slot_plan shape es k ≡ None
    → first_move shape es k slots ≡ None → first_move shape (there key place es) k slots ≡ None
move_none shape es key k place [] s b apart none h = refl
move_none shape es key k place (slot ∷ slots) s b apart none h = by (move_from shape es k slot) refl (move_none shape es key k place slots s b apart none) h
  where
    by : (o : Option Plan) → move_from shape es k slot ≡ o → (first_move shape es k slots ≡ None → first_move shape (with_changed (settled place) key es) k slots ≡ None) → option_or o (first_move shape es k slots) ≡ None → first_move shape (with_changed (settled place) key es) k (slot ∷ slots) ≡ None
    by None here more h =
        ap (λ m. option_or m (first_move shape (with_changed (settled place) key es) k slots)) (move_none_from shape es key k place slot s b apart none here)
        ∙ more h
    by (Some p) here more h = absurd cc

pub no_room_settled : (shape : Shape) (es : List Entry) (key k : KeyView) (place : Place) (e : Entry) → DistinctKeys es → entry_for key es ≡ Some e → e.place ≡ None → e.also ≡ None → is_slot place ≡ true
    → same_key key k ≡ false → first_plan shape es k ≡ plan.NoRoom → first_plan shape (with_changed (settled place) key es) k ≡ plan.NoRoom
no_room_settled shape es key k place e d found at also s apart h =
    let b = bare key es e d found at also in
    let none = no_room_none shape es k h in
    none_no_room shape (with_changed (settled place) key es) k (slot_none shape k key place es s b none.0) (move_none shape es key k place (key_slots shape k) s b apart none.0 none.1)
    (row_none shape k key place es b none.2)
