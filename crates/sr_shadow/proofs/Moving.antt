-- The book with an entry at another place.
use Rattle.std.proofs.Common.{◌≡◌, ℕ, ◌≤◌, Bool, true, false, cond, ◌&&◌, ◌||◌, not, List, [], ◌∷◌, ◌++◌, find, sum_by, is_none, is_some, Option, None, Some, option_map, refl, sym, ◌∙◌, ap, subst, true≢false, arith}
use Rattle.std.proofs.lemmas.Bool.{and_parts}
use Rattle.std.proofs.lemmas.Bool.Decides.{nat_tests}
use Rattle.std.proofs.lemmas.List.Folds.{list_any-append}
use Rattle.std.proofs.lemmas.List.Sums.{sum_by-cons}
use Rattle.std.specs.List.{list_any}
use Rattle.sr_base.specs.Key.{KeyView, same_key}
use Rattle.sr_base.specs.Place.{same_place}
use Rattle.sr_base.specs.declared.place.Place.{Place}
use Rattle.sr_base.specs.declared.place.Place.TheVariants.{Slot, Row}
use Rattle.sr_base.specs.declared.shape.Shape.{Shape}
use Rattle.sr_hash.specs.Clash.{clashes}
use Rattle.sr_shadow.specs.Book.{entry_for, holder_of, is_clashing, is_registered, is_rival, DistinctKeys, HeldOnce}
use Rattle.sr_shadow.specs.Entry.{fresh, holds, is_at, is_of, is_outside, is_placed, is_row, is_slot, times_held}
use Rattle.sr_shadow.specs.Plan.{entry_at, first_usable, is_free, moved, slots_in, slots_of, target, with_key, with_moved}
use Rattle.sr_shadow.specs.declared.entry.Entry.{Entry}
use Rattle.sr_base.proofs.Sameness.{same_key-true, same_key-sym}
use Rattle.sr_shadow.proofs.Splits.{changed_none, some_same}
use Rattle.sr_shadow.specs.Moves.{IsMover, NonePlaced, is_nobody_else}
use Rattle.sr_shadow.proofs.Holding.{found_any, none_holds}
use Rattle.sr_shadow.proofs.Usable.{usable_slot}
use Rattle.sr_shadow.proofs.Finding.{found_passes}

-- a place is free where no entry holds it
pub free_any : (es : List Entry) (place : Place) → is_free es place ≡ not (list_any (holds place) es)
free_any [] place = refl
free_any (e ∷ es) place = by (holds place e) (free_any es place)
  where
    by : (b : Bool) → is_free es place ≡ not (list_any (holds place) es) → is_none (option_map (λ x. x.key) (cond b (Some e) (find (holds place) es))) ≡ not (b || list_any (holds place) es)
    by true more = refl
    by false more = more

-- of the entries but one key's
abbrev pub holds_but : KeyView → Place → Entry → Bool
holds_but other place e = not (is_of other e) && holds place e

-- who holds a place with the entry at another place: the key, where it is that place, and who else held it before
pub moved_any : (es : List Entry) (other : KeyView) (to place : Place) → list_any (holds place) (with_moved other to es) ≡ ((is_registered other es && same_place place to) || list_any (holds_but other place) es)
moved_any [] other to place = refl
moved_any (e ∷ es) other to place = by (is_of other e) (moved_any es other to place)
  where
    joined : (s r a : Bool) → ((s || false) || ((r && s) || a)) ≡ (((true || r) && s) || ((not true && false) || a))
    joined true true a = refl
    joined true false a = refl
    joined false true a = refl
    joined false false a = refl

    apart : (h r s a : Bool) → (h || ((r && s) || a)) ≡ (((false || r) && s) || (h || a))
    apart true true true a = refl
    apart true true false a = refl
    apart true false s a = refl
    apart false r s a = refl

    by : (b : Bool) → list_any (holds place) (with_moved other to es) ≡ ((is_registered other es && same_place place to) || list_any (holds_but other place) es)
        → (holds place (cond b (moved to e) e) || list_any (holds place) (with_moved other to es)) ≡ (((b || is_registered other es) && same_place place to) || ((not b && holds place e) || list_any (holds_but other place) es))
    by true more = ap (λ r. (same_place place to || false) || r) more ∙ joined (same_place place to) (is_registered other es) (list_any (holds_but other place) es)
    by false more = ap (λ r. holds place e || r) more ∙ apart (holds place e) (is_registered other es) (same_place place to) (list_any (holds_but other place) es)

pub fewer : (p q : Entry → Bool) (es : List Entry) → ((e : Entry) → q e ≡ true → p e ≡ true) → list_any p es ≡ false → list_any q es ≡ false
fewer p q [] le h = refl
fewer p q (e ∷ es) le h = by (p e) (q e) refl refl (fewer p q es le) h
  where
    by : (a b : Bool) → p e ≡ a → q e ≡ b → (list_any p es ≡ false → list_any q es ≡ false) → (a || list_any p es) ≡ false → (b || list_any q es) ≡ false
    by true b s t more h = absurd cc
    by false true s t more h = absurd (true≢false (sym (le e t) ∙ s))
    by false false s t more h = more h

-- where only the key's entry holds the place, no other does
alone : (place : Place) (es : List Entry) (e : Entry) (other : KeyView) → sum_by (times_held place) es ≤ 1 → find (holds place) es ≡ Some e → is_of other e ≡ true → list_any (holds_but other place) es ≡ false
alone place [] e other once h own = refl
alone place (x ∷ xs) e other once h own = by (holds place x) refl (λ few f. alone place xs e other few f own) h
  where
    off : (o b : Bool) → o ≡ true → ((not o && true) || b) ≡ b
    off true b s = refl
    off false b s = absurd cc

    none : (o b : Bool) → ((not o && false) || b) ≡ b
    none true b = refl
    none false b = refl

    by : (b : Bool) → holds place x ≡ b → (sum_by (times_held place) xs ≤ 1 → find (holds place) xs ≡ Some e → list_any (holds_but other place) xs ≡ false) → cond b (Some x) (find (holds place) xs) ≡ Some e
        → ((not (is_of other x) && holds place x) || list_any (holds_but other place) xs) ≡ false
    by true s more h =
        let mine : is_of other x ≡ true = subst (λ y. is_of other y ≡ true) (sym (some_same x e h)) own in
        let rest : sum_by (times_held place) xs ≡ 0 = grind (arith, nat_tests, sum_by-cons (times_held place) x xs) in
        ap (λ b. (not (is_of other x) && b) || list_any (holds_but other place) xs) s
        ∙ off (is_of other x) (list_any (holds_but other place) xs) mine
        ∙ fewer (holds place) (holds_but other place) xs (λ y t. (and_parts (not (is_of other y)) (holds place y) t).1) (none_holds place xs rest)
    by false s more h =
        let rest : sum_by (times_held place) xs ≤ 1 = grind (arith, nat_tests, sum_by-cons (times_held place) x xs) in
        ap (λ b. (not (is_of other x) && b) || list_any (holds_but other place) xs) s
        ∙ none (is_of other x) (list_any (holds_but other place) xs)
        ∙ more rest h

-- and where another's does, some other does
not_alone : (place : Place) (es : List Entry) (e : Entry) (other : KeyView) → find (holds place) es ≡ Some e → is_of other e ≡ false → list_any (holds_but other place) es ≡ true
not_alone place es e other h apart =
    found_any (holds place) (holds_but other place) es e h (ap (λ b. not b && holds place e) apart ∙ found_passes (holds place) es e h)

nobody : (place : Place) (es : List Entry) (other : KeyView) → find (holds place) es ≡ None → list_any (holds_but other place) es ≡ false
nobody place [] other h = refl
nobody place (x ∷ xs) other h = by (holds place x) refl (nobody place xs other) h
  where
    none : (o b : Bool) → ((not o && false) || b) ≡ b
    none true b = refl
    none false b = refl

    by : (b : Bool) → holds place x ≡ b → (find (holds place) xs ≡ None → list_any (holds_but other place) xs ≡ false) → cond b (Some x) (find (holds place) xs) ≡ None
        → ((not (is_of other x) && holds place x) || list_any (holds_but other place) xs) ≡ false
    by true s more h = absurd cc
    by false s more h = ap (λ b. (not (is_of other x) && b) || list_any (holds_but other place) xs) s ∙ none (is_of other x) (list_any (holds_but other place) xs) ∙ more h

-- who else holds a place
others_hold : (place : Place) (es : List Entry) (other : KeyView) → HeldOnce es → list_any (holds_but other place) es ≡ not (is_nobody_else (holder_of place es) other)
others_hold place es other once = by (find (holds place) es) refl
  where
    own : (e : Entry) (b : Bool) → is_of other e ≡ b → find (holds place) es ≡ Some e → list_any (holds_but other place) es ≡ not b
    own e true t f = alone place es e other (once place) f t
    own e false t f = not_alone place es e other f t

    by : (f : Option Entry) → find (holds place) es ≡ f → list_any (holds_but other place) es ≡ not (is_nobody_else (option_map (λ e. e.key) f) other)
    by None f = nobody place es other f
    by (Some e) f = own e (is_of other e) refl f

registered : (key : KeyView) (es : List Entry) (e : Entry) → entry_for key es ≡ Some e → is_registered key es ≡ true
registered key es e h = found_any (is_of key) (is_of key) es e h (found_passes (is_of key) es e h)

-- A place is free with the entry at another place where it isn't that place, and nobody else holds it.
pub free_after : (es : List Entry) (e : Entry) (to place : Place) → HeldOnce es → entry_for e.key es ≡ Some e
    → is_free (with_moved e.key to es) place ≡ (not (same_place place to) && is_nobody_else (holder_of place es) e.key)
free_after es e to place once own =
    free_any (with_moved e.key to es) place
    ∙ ap not (moved_any es e.key to place)
    ∙ ap (λ r. not ((r && same_place place to) || list_any (holds_but e.key place) es)) (registered e.key es e own)
    ∙ ap (λ a. not ((true && same_place place to) || a)) (others_hold place es e.key once)
    ∙ turned (same_place place to) (is_nobody_else (holder_of place es) e.key)
  where
    turned : (s n : Bool) → not ((true && s) || not n) ≡ (not s && n)
    turned true n = refl
    turned false true = refl
    turned false false = refl

-- ---- clashes with the entry at another place

-- an entry stays outside the full-key table
moved_outside : (e : Entry) (to : Place) → is_slot to ≡ true → is_outside (moved to e) ≡ true
moved_outside e (Slot way bucket cell) s = refl
moved_outside e (Row row) s = absurd cc

moved_rivals : (shape : Shape) (way : ℕ) (key : KeyView) (es : List Entry) (e : Entry) (to : Place) → is_slot to ≡ true → DistinctKeys es → entry_for e.key es ≡ Some e → is_outside e ≡ true
    → is_clashing shape way key (with_moved e.key to es) ≡ is_clashing shape way key es
moved_rivals shape way key [] e to s d own out = refl
moved_rivals shape way key (x ∷ xs) e to s d own out = by (is_of e.key x) refl (λ o. moved_rivals shape way key xs e to s d.1 o out) own
  where
    by : (b : Bool) → is_of e.key x ≡ b → (entry_for e.key xs ≡ Some e → is_clashing shape way key (with_moved e.key to xs) ≡ is_clashing shape way key xs)
        → cond b (Some x) (entry_for e.key xs) ≡ Some e
        → (is_rival shape way key (cond b (moved to x) x) || is_clashing shape way key (with_moved e.key to xs)) ≡ (is_rival shape way key x || is_clashing shape way key xs)
    by true t more own =
        let it : x ≡ e = some_same x e own in
        let k : e.key ≡ x.key = same_key-true e.key x.key t in
        let none : is_registered e.key xs ≡ false = subst (λ y. is_registered y xs ≡ false) (sym k) d.0 in
        let before : is_outside x ≡ true = subst (λ y. is_outside y ≡ true) (sym it) out in
        let same : is_rival shape way key (moved to x) ≡ is_rival shape way key x =
        ap (λ b. b && (not (is_of key x) && clashes shape way key x.key)) (moved_outside x to s ∙ sym before) in
        let rest : is_clashing shape way key (with_moved e.key to xs) ≡ is_clashing shape way key xs = ap (is_clashing shape way key) (changed_none (moved to) e.key xs none) in
        ap (λ b. b || is_clashing shape way key (with_moved e.key to xs)) same ∙ ap (λ b. is_rival shape way key x || b) rest
    by false t more own = ap (λ b. is_rival shape way key x || b) (more own)

-- the planned key's usable slots with the entry at another place
pub then_slot : (shape : Shape) (es : List Entry) (key : KeyView) (e : Entry) (to : Place) (way bucket : ℕ) → DistinctKeys es → IsMover key e es → is_slot to ≡ true
    → first_usable shape (with_moved e.key to es) key (slots_in way bucket) ≡ cond (is_clashing shape way key es) None (find (is_free (with_moved e.key to es)) (slots_in way bucket))
then_slot shape es key e to way bucket d mover s =
    usable_slot shape (with_moved e.key to es) key way bucket
    ∙ ap (λ c. cond c None (find (is_free (with_moved e.key to es)) (slots_in way bucket))) (moved_rivals shape way key es e to s d mover.own mover.outside)

-- ---- the planned key as a registered one

no_holder : (place : Place) (es : List Entry) (key : KeyView) → holder_of place (es ++ fresh key 0 0 ∷ []) ≡ holder_of place es
no_holder place [] key = refl
no_holder place (e ∷ es) key = by (holds place e) (no_holder place es key)
  where
    by : (b : Bool) → holder_of place (es ++ fresh key 0 0 ∷ []) ≡ holder_of place es
        → option_map (λ x. x.key) (cond b (Some e) (find (holds place) (es ++ fresh key 0 0 ∷ []))) ≡ option_map (λ x. x.key) (cond b (Some e) (find (holds place) es))
    by true h = refl
    by false h = h

pub counted_holder : (place : Place) (es : List Entry) (key : KeyView) → holder_of place (with_key key es) ≡ holder_of place es
counted_holder place es key = by (is_registered key es)
  where
    by : (b : Bool) → holder_of place (cond b es (es ++ fresh key 0 0 ∷ [])) ≡ holder_of place es
    by true = refl
    by false = no_holder place es key

-- a registered key without a Live place is a rival where it clashes
own_rival : (shape : Shape) (way : ℕ) (k key : KeyView) (es : List Entry) → NonePlaced key es → is_registered key es ≡ true → same_key k key ≡ false → clashes shape way k key ≡ true
    → is_clashing shape way k es ≡ true
own_rival shape way k key [] u r apart c = absurd cc
own_rival shape way k key (e ∷ es) u r apart c = by (is_of key e) (is_placed e) refl refl (λ u r. own_rival shape way k key es u r apart c) u r
  where
    either : (a b : Bool) → b ≡ true → (a || b) ≡ true
    either true b t = refl
    either false b t = t

    outside : (p : Option Place) → is_some p ≡ false → not (is_row p) ≡ true
    outside None n = refl
    outside (Some p) n = absurd cc

    all : (a b d : Bool) → a ≡ true → b ≡ false → d ≡ true → (a && (not b && d)) ≡ true
    all a b d ea eb ed = rw (ea, eb, ed) refl

    by : (b p : Bool) → is_of key e ≡ b → is_placed e ≡ p → (NonePlaced key es → is_registered key es ≡ true → is_clashing shape way k es ≡ true) → ((b && p) || list_any (λ x. is_of key x && is_placed x) es) ≡ false → (b || is_registered key es) ≡ true
        → (is_rival shape way k e || is_clashing shape way k es) ≡ true
    by true true s t more u r = absurd cc
    by true false s t more u r =
        let own : key ≡ e.key = same_key-true key e.key s in
        let other : is_of k e ≡ false = subst (λ y. same_key k y ≡ false) own apart in
        let clash : clashes shape way k e.key ≡ true = subst (λ y. clashes shape way k y ≡ true) own c in
        ap (λ b. b || is_clashing shape way k es) (all (is_outside e) (is_of k e) (clashes shape way k e.key) (outside e.place t) other clash)
    by false p s t more u r = either (is_rival shape way k e) (is_clashing shape way k es) (more u r)

pub counted_rivals : (shape : Shape) (way : ℕ) (k key : KeyView) (es : List Entry) → NonePlaced key es → same_key k key ≡ false
    → is_clashing shape way k (with_key key es) ≡ (is_clashing shape way k es || clashes shape way k key)
counted_rivals shape way k key es u apart = by (is_registered key es) refl
  where
    orf : (a : Bool) → (a || false) ≡ a
    orf true = refl
    orf false = refl

    fresh_rival : (b d : Bool) → b ≡ false → ((true && (not b && d)) || false) ≡ d
    fresh_rival true d e = absurd cc
    fresh_rival false d e = orf d

    clash : (c : Bool) → clashes shape way k key ≡ c → is_registered key es ≡ true → is_clashing shape way k es ≡ (is_clashing shape way k es || c)
    clash true e r = own_rival shape way k key es u r apart e ∙ sym (ap (λ b. b || true) (own_rival shape way k key es u r apart e))
    clash false e r = sym (orf (is_clashing shape way k es))

    by : (b : Bool) → is_registered key es ≡ b → is_clashing shape way k (cond b es (es ++ fresh key 0 0 ∷ [])) ≡ (is_clashing shape way k es || clashes shape way k key)
    by true r = clash (clashes shape way k key) refl r
    by false r =
        list_any-append (is_rival shape way k) es (fresh key 0 0 ∷ [])
        ∙ ap (λ b. is_clashing shape way k es || b) (fresh_rival (same_key k key) (clashes shape way k key) apart)

pub find_alike : (p q : Place → Bool) (places : List Place) → ((x : Place) → p x ≡ q x) → find p places ≡ find q places
find_alike p q [] h = refl
find_alike p q (x ∷ xs) h = ap (λ b. cond b (Some x) (find p xs)) (h x) ∙ ap (λ r. cond (q x) (Some x) r) (find_alike p q xs h)

-- where an entry may move
pub target_slot : (shape : Shape) (es : List Entry) (key : KeyView) (e : Entry) (way : ℕ) → NonePlaced key es → IsMover key e es
    → target shape es key e.key way ≡ cond (is_clashing shape way e.key es || clashes shape way e.key key) None (find (is_free es) (slots_of shape way e.key))
target_slot shape es key e way u mover =
    usable_slot shape (with_key key es) e.key way _
    ∙ ap (λ c. cond c None (find (is_free (with_key key es)) (slots_of shape way e.key))) (counted_rivals shape way e.key key es u mover.other)
    ∙ ap (λ r. cond (is_clashing shape way e.key es || clashes shape way e.key key) None r)
    (find_alike (is_free (with_key key es)) (is_free es) (slots_of shape way e.key) (λ place. ap is_none (counted_holder place es key)))

-- a slot that is found is a slot
pub found_slot : (p : Place → Bool) (way bucket : ℕ) (to : Place) → find p (slots_in way bucket) ≡ Some to → is_slot to ≡ true
found_slot p way bucket to h = by (p (Slot way bucket 0)) (p (Slot way bucket 1)) (p (Slot way bucket 2)) (p (Slot way bucket 3)) h
  where
    it : (a b : Place) → Some a ≡ Some b → a ≡ b
    it a b e = grind arith

    by : (a b c d : Bool) → cond a (Some (Slot way bucket 0)) (cond b (Some (Slot way bucket 1)) (cond c (Some (Slot way bucket 2)) (cond d (Some (Slot way bucket 3)) None))) ≡ Some to → is_slot to ≡ true
    by true b c d h = sym (ap is_slot (it _ _ h))
    by false true c d h = sym (ap is_slot (it _ _ h))
    by false false true d h = sym (ap is_slot (it _ _ h))
    by false false false true h = sym (ap is_slot (it _ _ h))
    by false false false false h = absurd cc

-- the entry in a slot may move
pub slot_mover : (es : List Entry) (key : KeyView) (e : Entry) (way bucket cell : ℕ) → NonePlaced key es → entry_at (Slot way bucket cell) es ≡ Some e → entry_for e.key es ≡ Some e → IsMover key e es
slot_mover es key e way bucket cell u found own = record { own = own; outside = outside e.place at; other = apart (same_key e.key key) refl }
  where
    at : is_at (Slot way bucket cell) e.place ≡ true
    at = found_passes (λ x. is_at (Slot way bucket cell) x.place) es e found

    outside : (p : Option Place) → is_at (Slot way bucket cell) p ≡ true → not (is_row p) ≡ true
    outside None t = absurd cc
    outside (Some (Slot w b c)) t = refl
    outside (Some (Row row)) t = absurd cc

    placed : (p : Option Place) → is_at (Slot way bucket cell) p ≡ true → is_some p ≡ true
    placed None t = absurd cc
    placed (Some p) t = refl

    both : (a b : Bool) → a ≡ true → b ≡ true → (a && b) ≡ true
    both a b ea eb = rw (ea, eb) refl

    apart : (b : Bool) → same_key e.key key ≡ b → b ≡ false
    apart true t =
        let mine : is_of key e ≡ true = same_key-sym key e.key ∙ t in
        absurd (true≢false (sym (found_any (λ x. is_at (Slot way bucket cell) x.place) (λ x. is_of key x && is_placed x) es e found (both (is_of key e) (is_placed e) mine (placed e.place at))) ∙ u))
    apart false t = refl
