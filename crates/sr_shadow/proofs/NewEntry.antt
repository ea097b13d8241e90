-- A new entry, which has no place, makes no room.
use Rattle.std.proofs.Common.{◌≡◌, ◌⊎◌, inl, inr, ℕ, Bool, true, false, cond, ◌&&◌, ◌||◌, not, List, [], ◌∷◌, ◌++◌, find, is_none, Option, None, Some, option_map, refl, sym, ◌∙◌, ap, subst, true≢false}
use Rattle.std.proofs.lemmas.List.{map-append}
use Rattle.std.proofs.lemmas.List.Folds.{list_any-append}
use Rattle.std.specs.List.{list_any}
use Rattle.std.specs.Option.{option_or}
use Rattle.sr_base.specs.Key.{KeyView, same_key}
use Rattle.sr_base.specs.declared.place.Place.{Place}
use Rattle.sr_base.specs.declared.place.Place.TheVariants.{Slot, Row}
use Rattle.sr_base.specs.declared.shape.Shape.{Shape}
use Rattle.sr_hash.specs.Uses.{bucket_of}
use Rattle.sr_shadow.specs.Book.{holder_of, is_clashing, is_registered, is_rival}
use Rattle.sr_shadow.specs.Entry.{fresh, holds, is_at, is_of}
use Rattle.sr_shadow.specs.Plan.{entry_at, first_move, first_plan, first_usable, is_clear, is_clear_but, is_free, is_mistaken, is_mistaken_but, is_usable, key_rows, key_slots, moved, move_at, move_from, move_if_clear, move_to, other_way, row_plan, slot_if_clear, slot_plan, slot_then, slots_in, target, with_key, with_moved}
use Rattle.sr_shadow.specs.declared.entry.Entry.{Entry}
use Rattle.sr_shadow.specs.declared.plan.Plan.{Plan}
use Rattle.sr_shadow.specs.declared.plan.Plan.TheVariants as plan
use Rattle.sr_base.proofs.Sameness.{same_key-sym}
use Rattle.sr_shadow.proofs.Finding.{find_fewer}
use Rattle.sr_shadow.proofs.Holding.{found_any}
use Rattle.sr_shadow.proofs.Later.{no_room_none, none_no_room}
use Rattle.sr_shadow.proofs.Usable.{usable_slot}

-- an entry without a place
abbrev Placeless : Entry → Type 0
Placeless f = (f.place ≡ None) × (f.also ≡ None)

orf : (a : Bool) → (a || false) ≡ a
orf true = refl
orf false = refl

-- nobody holds more
holder_more : (place : Place) (es : List Entry) (key : KeyView) (v n : ℕ) → holder_of place (es ++ fresh key v n ∷ []) ≡ holder_of place es
holder_more place [] key v n = refl
holder_more place (e ∷ es) key v n = by (holds place e) (holder_more place es key v n)
  where
    by : (b : Bool) → holder_of place (es ++ fresh key v n ∷ []) ≡ holder_of place es
        → option_map (λ x. x.key) (cond b (Some e) (find (holds place) (es ++ fresh key v n ∷ []))) ≡ option_map (λ x. x.key) (cond b (Some e) (find (holds place) es))
    by true h = refl
    by false h = h

at_more : (place : Place) (es : List Entry) (key : KeyView) (v n : ℕ) → entry_at place (es ++ fresh key v n ∷ []) ≡ entry_at place es
at_more place [] key v n = refl
at_more place (e ∷ es) key v n = ap (λ r. cond (is_at place e.place) (Some e) r) (at_more place es key v n)

free_more : (es : List Entry) (key : KeyView) (v n : ℕ) (place : Place) → is_free (es ++ fresh key v n ∷ []) place ≡ is_free es place
free_more es key v n place = ap is_none (holder_more place es key v n)

-- those that clash stay
clash_more : (shape : Shape) (way : ℕ) (k : KeyView) (es fs : List Entry) → is_clashing shape way k es ≡ true → is_clashing shape way k (es ++ fs) ≡ true
clash_more shape way k es fs c = list_any-append (is_rival shape way k) es fs ∙ ap (λ b. b || is_clashing shape way k fs) c

-- the key is as clear as before
unmistaken : (a b : Bool) → ((not a && (not b && false)) || false) ≡ false
unmistaken true b = refl
unmistaken false true = refl
unmistaken false false = refl

clear_more : (shape : Shape) (es : List Entry) (key k : KeyView) (v n : ℕ) → is_clear shape (es ++ fresh k v n ∷ []) key ≡ is_clear shape es key
clear_more shape es key k v n =
    ap not (list_any-append (is_mistaken shape key) es (fresh k v n ∷ []) ∙ (ap (λ b. list_any (is_mistaken shape key) es || b) (lone (same_key key k)) ∙ orf (list_any (is_mistaken shape key) es)))
  where
    lone : (b : Bool) → ((not b && false) || false) ≡ false
    lone true = refl
    lone false = refl

clear_but_more : (shape : Shape) (es : List Entry) (key other k : KeyView) (v n : ℕ) → is_clear_but shape (es ++ fresh k v n ∷ []) key other ≡ is_clear_but shape es key other
clear_but_more shape es key other k v n =
    ap not (list_any-append (is_mistaken_but shape key other) es (fresh k v n ∷ [])
    ∙ (ap (λ b. list_any (is_mistaken_but shape key other) es || b) (unmistaken (same_key other k) (same_key key k)) ∙ orf (list_any (is_mistaken_but shape key other) es)))

-- a slot that is usable was usable
usable_before : (shape : Shape) (es : List Entry) (key k : KeyView) (v n : ℕ) (place : Place) → is_usable shape (es ++ fresh k v n ∷ []) key place ≡ true → is_usable shape es key place ≡ true
usable_before shape es key k v n (Row row) h = h
usable_before shape es key k v n (Slot way bucket cell) h =
    by (is_clashing shape way key es) refl (ap (λ b. b && not (is_clashing shape way key (es ++ fresh k v n ∷ []))) (sym (free_more es k v n (Slot way bucket cell))) ∙ h)
  where
    never : (a c : Bool) → c ≡ true → (a && not c) ≡ true → ⊥
    never true true e h = true≢false (sym h)
    never true false e h = absurd cc
    never false c e h = true≢false (sym h)

    first : (a c : Bool) → (a && not c) ≡ true → (a && true) ≡ true
    first true c h = refl
    first false c h = h

    by : (b : Bool) → is_clashing shape way key es ≡ b → (is_free es (Slot way bucket cell) && not (is_clashing shape way key (es ++ fresh k v n ∷ []))) ≡ true → (is_free es (Slot way bucket cell) && not b) ≡ true
    by true c h = absurd (never (is_free es (Slot way bucket cell)) (is_clashing shape way key (es ++ fresh k v n ∷ [])) (clash_more shape way key es (fresh k v n ∷ []) c) h)
    by false c h = first (is_free es (Slot way bucket cell)) (is_clashing shape way key (es ++ fresh k v n ∷ [])) h

usable_none : (shape : Shape) (es : List Entry) (key k : KeyView) (v n : ℕ) (places : List Place) → first_usable shape es key places ≡ None → first_usable shape (es ++ fresh k v n ∷ []) key places ≡ None
usable_none shape es key k v n places h = find_fewer (is_usable shape es key) (is_usable shape (es ++ fresh k v n ∷ []) key) places (usable_before shape es key k v n) h

slot_none : (shape : Shape) (es : List Entry) (key k : KeyView) (v n : ℕ) → slot_plan shape es key ≡ None → slot_plan shape (es ++ fresh k v n ∷ []) key ≡ None
slot_none shape es key k v n h = by (is_clear shape es key) (first_usable shape es key (key_slots shape key)) refl refl h
  where
    unclear : (o : Option Place) → slot_if_clear false o ≡ None
    unclear None = refl
    unclear (Some p) = refl

    by : (c : Bool) (o : Option Place) → is_clear shape es key ≡ c → first_usable shape es key (key_slots shape key) ≡ o → slot_if_clear c o ≡ None → slot_plan shape (es ++ fresh k v n ∷ []) key ≡ None
    by c None e f h = ap (slot_if_clear (is_clear shape (es ++ fresh k v n ∷ []) key)) (usable_none shape es key k v n (key_slots shape key) f)
    by true (Some p) e f h = absurd cc
    by false (Some p) e f h =
        ap (λ b. slot_if_clear b (first_usable shape (es ++ fresh k v n ∷ []) key (key_slots shape key))) (clear_more shape es key k v n ∙ e)
        ∙ unclear (first_usable shape (es ++ fresh k v n ∷ []) key (key_slots shape key))

-- ---- moves

registered_more : (key k : KeyView) (es : List Entry) (v n : ℕ) → same_key key k ≡ false → is_registered key (es ++ fresh k v n ∷ []) ≡ is_registered key es
registered_more key k es v n apart = list_any-append (is_of key) es (fresh k v n ∷ []) ∙ (ap (λ b. is_registered key es || (b || false)) apart ∙ orf (is_registered key es))

-- where the key counts as registered, those that clash stay
counted_clash : (shape : Shape) (way : ℕ) (other key k : KeyView) (es : List Entry) (v n : ℕ) → same_key key k ≡ false → is_clashing shape way other (with_key key es) ≡ true
    → is_clashing shape way other (with_key key (es ++ fresh k v n ∷ [])) ≡ true
counted_clash shape way other key k es v n apart c =
    subst (λ b. is_clashing shape way other (cond b (es ++ fresh k v n ∷ []) ((es ++ fresh k v n ∷ []) ++ fresh key 0 0 ∷ [])) ≡ true) (sym (registered_more key k es v n apart)) (by (is_registered key es) c)
  where
    between : (a b d : Bool) → (a || d) ≡ true → ((a || b) || d) ≡ true
    between true b d h = refl
    between false true d h = refl
    between false false d h = h

    by : (b : Bool) → is_clashing shape way other (cond b es (es ++ fresh key 0 0 ∷ [])) ≡ true → is_clashing shape way other (cond b (es ++ fresh k v n ∷ []) ((es ++ fresh k v n ∷ []) ++ fresh key 0 0 ∷ [])) ≡ true
    by true c = clash_more shape way other es (fresh k v n ∷ []) c
    by false c =
        list_any-append (is_rival shape way other) (es ++ fresh k v n ∷ []) (fresh key 0 0 ∷ [])
        ∙ (ap (λ b. b || is_clashing shape way other (fresh key 0 0 ∷ [])) (list_any-append (is_rival shape way other) es (fresh k v n ∷ []))
        ∙ between (is_clashing shape way other es) (is_clashing shape way other (fresh k v n ∷ [])) (is_clashing shape way other (fresh key 0 0 ∷ []))
        (sym (list_any-append (is_rival shape way other) es (fresh key 0 0 ∷ [])) ∙ c))

counted_free : (place : Place) (key : KeyView) (es : List Entry) → is_free (with_key key es) place ≡ is_free es place
counted_free place key es = by (is_registered key es)
  where
    by : (b : Bool) → is_free (cond b es (es ++ fresh key 0 0 ∷ [])) place ≡ is_free es place
    by true = refl
    by false = free_more es key 0 0 place

find_alike : (p q : Place → Bool) (places : List Place) → ((x : Place) → p x ≡ q x) → find p places ≡ find q places
find_alike p q [] h = refl
find_alike p q (x ∷ xs) h = ap (λ b. cond b (Some x) (find p xs)) (h x) ∙ ap (λ r. cond (q x) (Some x) r) (find_alike p q xs h)

-- an entry's target stays, or there is none any more
target_more : (shape : Shape) (es : List Entry) (key other k : KeyView) (v n way : ℕ) → same_key key k ≡ false
    → (target shape (es ++ fresh k v n ∷ []) key other way ≡ None) ⊎ (target shape (es ++ fresh k v n ∷ []) key other way ≡ target shape es key other way)
target_more shape es key other k v n way apart = by (is_clashing shape way other (with_key key new)) (is_clashing shape way other (with_key key es)) refl refl
  where
    new : List Entry
    new = es ++ fresh k v n ∷ []

    free : find (is_free (with_key key new)) (slots_in way (bucket_of way other shape.buckets)) ≡ find (is_free (with_key key es)) (slots_in way (bucket_of way other shape.buckets))
    free = find_alike (is_free (with_key key new)) (is_free (with_key key es)) (slots_in way (bucket_of way other shape.buckets))
        (λ place. counted_free place key new ∙ (free_more es k v n place ∙ sym (counted_free place key es)))

    by : (a b : Bool) → is_clashing shape way other (with_key key new) ≡ a → is_clashing shape way other (with_key key es) ≡ b
        → (target shape new key other way ≡ None) ⊎ (target shape new key other way ≡ target shape es key other way)
    by true b e f = inl (usable_slot shape (with_key key new) other way (bucket_of way other shape.buckets) ∙ ap (λ c. cond c None (find (is_free (with_key key new)) (slots_in way (bucket_of way other shape.buckets)))) e)
    by false true e f = absurd (true≢false (sym (counted_clash shape way other key k es v n apart f) ∙ e))
    by false false e f = inr (
        usable_slot shape (with_key key new) other way (bucket_of way other shape.buckets)
        ∙ (ap (λ c. cond c None (find (is_free (with_key key new)) (slots_in way (bucket_of way other shape.buckets)))) e
        ∙ (free ∙ sym (usable_slot shape (with_key key es) other way (bucket_of way other shape.buckets)
        ∙ ap (λ c. cond c None (find (is_free (with_key key es)) (slots_in way (bucket_of way other shape.buckets)))) f))))

moved_more : (other k : KeyView) (to : Place) (es : List Entry) (v n : ℕ) → same_key other k ≡ false → with_moved other to (es ++ fresh k v n ∷ []) ≡ with_moved other to es ++ fresh k v n ∷ []
moved_more other k to es v n apart =
    map-append (λ e. cond (is_of other e) (moved to e) e) es (fresh k v n ∷ []) ∙ ap (λ b. with_moved other to es ++ cond b (moved to (fresh k v n)) (fresh k v n) ∷ []) apart

then_none : (shape : Shape) (es : List Entry) (key other k : KeyView) (to : Place) (v n : ℕ) → same_key other k ≡ false → slot_then shape es key other to ≡ None → slot_then shape (es ++ fresh k v n ∷ []) key other to ≡ None
then_none shape es key other k to v n apart h =
    ap (λ xs. first_usable shape xs key (key_slots shape key)) (moved_more other k to es v n apart) ∙ usable_none shape (with_moved other to es) key k v n (key_slots shape key) h

move_none_of : (shape : Shape) (es : List Entry) (key other k : KeyView) (v n way : ℕ) (from : Place) → same_key key k ≡ false → same_key other k ≡ false
    → move_to shape es key other from (target shape es key other way) ≡ None → move_to shape (es ++ fresh k v n ∷ []) key other from (target shape (es ++ fresh k v n ∷ []) key other way) ≡ None
move_none_of shape es key other k v n way from apart far h = elim (target_more shape es key other k v n way apart) [
  | inl none ↦ ap (move_to shape new key other from) none
  | inr same ↦ ap (move_to shape new key other from) same ∙ by (target shape es key other way) h
]
  where
    new : List Entry
    new = es ++ fresh k v n ∷ []

    unclear : (to : Place) (o : Option Place) → move_if_clear false other from to o ≡ None
    unclear to None = refl
    unclear to (Some p) = refl

    last : (to : Place) (c : Bool) (o : Option Place) → is_clear_but shape es key other ≡ c → slot_then shape es key other to ≡ o → move_if_clear c other from to o ≡ None
        → move_if_clear (is_clear_but shape new key other) other from to (slot_then shape new key other to) ≡ None
    last to c None e f h = ap (move_if_clear (is_clear_but shape new key other) other from to) (then_none shape es key other k to v n far f)
    last to true (Some p) e f h = absurd cc
    last to false (Some p) e f h =
        ap (λ b. move_if_clear b other from to (slot_then shape new key other to)) (clear_but_more shape es key other k v n ∙ e) ∙ unclear to (slot_then shape new key other to)

    by : (o : Option Place) → move_to shape es key other from o ≡ None → move_to shape new key other from o ≡ None
    by None h = refl
    by (Some to) h = last to (is_clear_but shape es key other) (slot_then shape es key other to) refl refl h

move_none_from : (shape : Shape) (es : List Entry) (key k : KeyView) (v n : ℕ) (slot : Place) → same_key key k ≡ false → is_registered k es ≡ false → move_from shape es key slot ≡ None
    → move_from shape (es ++ fresh k v n ∷ []) key slot ≡ None
move_none_from shape es key k v n (Row row) apart new h = refl
move_none_from shape es key k v n (Slot way bucket cell) apart new h =
    ap (move_at shape (es ++ fresh k v n ∷ []) key way (Slot way bucket cell)) (at_more (Slot way bucket cell) es k v n) ∙ by (entry_at (Slot way bucket cell) es) refl h
  where
    far : (e : Entry) → entry_at (Slot way bucket cell) es ≡ Some e → (b : Bool) → same_key e.key k ≡ b → b ≡ false
    far e f true s = absurd (true≢false (sym (found_any (λ x. is_at (Slot way bucket cell) x.place) (is_of k) es e f (same_key-sym k e.key ∙ s)) ∙ new))
    far e f false s = refl

    by : (o : Option Entry) → entry_at (Slot way bucket cell) es ≡ o → move_at shape es key way (Slot way bucket cell) o ≡ None → move_at shape (es ++ fresh k v n ∷ []) key way (Slot way bucket cell) o ≡ None
    by None f h = refl
    by (Some e) f h = move_none_of shape es key e.key k v n (other_way way) (Slot way bucket cell) apart (far e f (same_key e.key k) refl) h

move_none : (shape : Shape) (es : List Entry) (key k : KeyView) (v n : ℕ) (places : List Place) → same_key key k ≡ false → is_registered k es ≡ false → first_move shape es key places ≡ None
    → first_move shape (es ++ fresh k v n ∷ []) key places ≡ None
move_none shape es key k v n [] apart new h = refl
move_none shape es key k v n (slot ∷ places) apart new h =
    by (move_from shape es key slot) (first_move shape es key places) refl refl h (λ f. move_none_from shape es key k v n slot apart new f) (λ f. move_none shape es key k v n places apart new f)
  where
    by : (a b : Option Plan) → move_from shape es key slot ≡ a → first_move shape es key places ≡ b → option_or a b ≡ None
        → (move_from shape es key slot ≡ None → move_from shape (es ++ fresh k v n ∷ []) key slot ≡ None) → (first_move shape es key places ≡ None → first_move shape (es ++ fresh k v n ∷ []) key places ≡ None)
        → option_or (move_from shape (es ++ fresh k v n ∷ []) key slot) (first_move shape (es ++ fresh k v n ∷ []) key places) ≡ None
    by None None e f h one more = ap (λ a. option_or a (first_move shape (es ++ fresh k v n ∷ []) key places)) (one e) ∙ more f
    by None (Some p) e f h one more = absurd cc
    by (Some p) b e f h one more = absurd cc

row_alike : (p q : ℕ → Bool) (rows : List ℕ) → ((x : ℕ) → p x ≡ q x) → find p rows ≡ find q rows
row_alike p q [] h = refl
row_alike p q (x ∷ xs) h = ap (λ b. cond b (Some x) (find p xs)) (h x) ∙ ap (λ r. cond (q x) (Some x) r) (row_alike p q xs h)

row_same : (shape : Shape) (es : List Entry) (key k : KeyView) (v n : ℕ) → row_plan shape (es ++ fresh k v n ∷ []) key ≡ row_plan shape es key
row_same shape es key k v n = ap (option_map plan.FullKey) (row_alike (λ row. is_free (es ++ fresh k v n ∷ []) (Row row)) (λ row. is_free es (Row row)) (key_rows shape key) (λ row. free_more es k v n (Row row)))

pub no_room_more : (shape : Shape) (es : List Entry) (key other : KeyView) (version number : ℕ) → same_key key other ≡ false → is_registered other es ≡ false
    → first_plan shape es key ≡ plan.NoRoom → first_plan shape (es ++ fresh other version number ∷ []) key ≡ plan.NoRoom
no_room_more shape es key other version number apart new h =
    let none = no_room_none shape es key h in
    none_no_room shape (es ++ fresh other version number ∷ []) key (slot_none shape es key other version number none.0) (move_none shape es key other version number (key_slots shape key) apart new none.1)
    (row_same shape es key other version number ∙ none.2)
