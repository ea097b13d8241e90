-- A planned slot leaves all keys clear.
use Rattle.std.proofs.Common.{◌≡◌, ◌==◌, ℕ, zero, suc, Bool, true, false, cond, ◌&&◌, ◌||◌, not, List, [], ◌∷◌, map, Option, None, Some, option_map, refl, sym, ◌∙◌, ap, subst, arith}
use Rattle.std.proofs.lemmas.Bool.{and_parts, not-true, or_parts}
use Rattle.std.specs.Prelude.{slice_get}
use Rattle.std.proofs.lemmas.Bool.Decides.{nat_tests}
use Rattle.std.specs.List.{list_any}
use Rattle.sr_base.specs.Key.{KeyView}
use Rattle.sr_base.specs.declared.place.Place.{Place}
use Rattle.sr_base.specs.declared.place.Place.TheVariants.{Slot, Row}
use Rattle.sr_base.specs.declared.shape.Shape.{Shape}
use Rattle.sr_hash.specs.Clash.{clashes}
use Rattle.sr_hash.specs.Uses.{bucket_of, digest_of}
use Rattle.sr_shadow.specs.Book.{is_clashing, is_rival, with_changed}
use Rattle.sr_shadow.specs.Entry.{is_of, is_outside, settled}
use Rattle.sr_shadow.specs.Plan.{AllClear, AllClearBut, clashes_at, first_plan, first_usable, is_clear, is_mistaken, is_usable, key_slots, slot_if_clear, slot_plan}
use Rattle.sr_shadow.specs.declared.entry.Entry.{Entry}
use Rattle.sr_shadow.specs.declared.plan.Plan.TheVariants as plan
use Rattle.sr_base.proofs.Sameness.{same_key-true}
use Rattle.sr_shadow.proofs.Finding.{found_passes}
use Rattle.sr_shadow.proofs.Later.{slot_first}
use Rattle.sr_shadow.proofs.Splits.{some_same}

same_number : (a b : ℕ) → (a == b) ≡ (b == a)
same_number a b = grind (arith, nat_tests)

pub clashes-sym : (shape : Shape) (way : ℕ) (a b : KeyView) → clashes shape way a b ≡ clashes shape way b a
clashes-sym shape way a b =
    ap (λ t. t && ((bucket_of way a shape.buckets == bucket_of way b shape.buckets) && (digest_of way a shape.digest_bits == digest_of way b shape.digest_bits))) (same_number a.vip b.vip)
    ∙ (ap (λ t. (b.vip == a.vip) && (t && (digest_of way a shape.digest_bits == digest_of way b shape.digest_bits))) (same_number (bucket_of way a shape.buckets) (bucket_of way b shape.buckets))
    ∙ ap (λ t. (b.vip == a.vip) && ((bucket_of way b shape.buckets == bucket_of way a shape.buckets) && t)) (same_number (digest_of way a shape.digest_bits) (digest_of way b shape.digest_bits)))

-- what no entry passes, one of them doesn't
none_passes : (p : Entry → Bool) (es : List Entry) (i : ℕ) (e : Entry) → slice_get es i ≡ Some e → list_any p es ≡ false → p e ≡ false
none_passes p [] i e at none = absurd cc
none_passes p (x ∷ xs) zero e at none = subst (λ y. p y ≡ false) (some_same x e at) (or_parts _ _ none).0
none_passes p (x ∷ xs) (suc i) e at none = none_passes p xs i e at (or_parts (p x) (list_any p xs) none).1

pub get_mapped : (g : Entry → Entry) (es : List Entry) (i : ℕ) → slice_get (map g es) i ≡ option_map g (slice_get es i)
get_mapped g [] i = refl
get_mapped g (x ∷ xs) zero = refl
get_mapped g (x ∷ xs) (suc i) = get_mapped g xs i

-- the planned key stays clear, its own entry being none that it is taken for
own_clear : (shape : Shape) (key : KeyView) (place : Place) (es : List Entry) → list_any (is_mistaken shape key) es ≡ false → list_any (is_mistaken shape key) (with_changed (settled place) key es) ≡ false
own_clear shape key place [] h = refl
own_clear shape key place (x ∷ xs) h = by (is_of key x) refl (own_clear shape key place xs (or_parts _ _ h).1)
  where
    shut : (o c : Bool) → o ≡ true → (not o && c) ≡ false
    shut true c e = refl
    shut false c e = absurd cc

    by : (b : Bool) → is_of key x ≡ b → list_any (is_mistaken shape key) (with_changed (settled place) key xs) ≡ false
        → (is_mistaken shape key (cond b (settled place x) x) || list_any (is_mistaken shape key) (with_changed (settled place) key xs)) ≡ false
    by true t more = ap (λ b. b || list_any (is_mistaken shape key) (with_changed (settled place) key xs)) (shut (is_of key x) (clashes_at shape key x.key (Some place)) t) ∙ more
    by false t more = ap (λ b. b || list_any (is_mistaken shape key) (with_changed (settled place) key xs)) (or_parts (is_mistaken shape key x) (list_any (is_mistaken shape key) xs) h).0 ∙ more

-- another key stays clear, since it doesn't clash with the planned key there
other_clear : (shape : Shape) (k key : KeyView) (place : Place) (es : List Entry) → clashes_at shape k key (Some place) ≡ false → list_any (is_mistaken shape k) es ≡ false
    → list_any (is_mistaken shape k) (with_changed (settled place) key es) ≡ false
other_clear shape k key place [] apart h = refl
other_clear shape k key place (x ∷ xs) apart h = by (is_of key x) refl (other_clear shape k key place xs apart (or_parts _ _ h).1)
  where
    shut : (o c : Bool) → c ≡ false → (not o && c) ≡ false
    shut true c e = refl
    shut false c e = e

    by : (b : Bool) → is_of key x ≡ b → list_any (is_mistaken shape k) (with_changed (settled place) key xs) ≡ false
        → (is_mistaken shape k (cond b (settled place x) x) || list_any (is_mistaken shape k) (with_changed (settled place) key xs)) ≡ false
    by true t more =
        let own : key ≡ x.key = same_key-true key x.key t in
        ap (λ b. b || list_any (is_mistaken shape k) (with_changed (settled place) key xs))
        (shut (is_of k x) (clashes_at shape k x.key (Some place)) (subst (λ y. clashes_at shape k y (Some place) ≡ false) own apart)) ∙ more
    by false t more = ap (λ b. b || list_any (is_mistaken shape k) (with_changed (settled place) key xs)) (or_parts (is_mistaken shape k x) (list_any (is_mistaken shape k) xs) h).0 ∙ more

-- what a planned slot is
pub planned : (shape : Shape) (es : List Entry) (key : KeyView) (place : Place) → slot_plan shape es key ≡ Some (plan.Slot place) → (is_clear shape es key ≡ true) × (first_usable shape es key (key_slots shape key) ≡ Some place)
planned shape es key place h = by (is_clear shape es key) (first_usable shape es key (key_slots shape key)) refl refl h
  where
    it : (a b : Place) → Some (plan.Slot a) ≡ Some (plan.Slot b) → a ≡ b
    it a b e = cc

    by : (c : Bool) (o : Option Place) → is_clear shape es key ≡ c → first_usable shape es key (key_slots shape key) ≡ o → slot_if_clear c o ≡ Some (plan.Slot place)
        → (is_clear shape es key ≡ true) × (first_usable shape es key (key_slots shape key) ≡ Some place)
    by c None e f h = absurd cc
    by true (Some p) e f h = (e, f ∙ ap Some (it p place h))
    by false (Some p) e f h = absurd cc

-- no other registered key outside the full-key table clashes with the planned key there
apart_there : (shape : Shape) (es : List Entry) (key : KeyView) (place : Place) (i : ℕ) (e : Entry) → is_usable shape es key place ≡ true → slice_get es i ≡ Some e → is_outside e ≡ true → is_of key e ≡ false
    → clashes_at shape e.key key (Some place) ≡ false
apart_there shape es key (Row row) i e usable at out other = refl
apart_there shape es key (Slot way bucket cell) i e usable at out other =
    let none : is_clashing shape way key es ≡ false = not-true _ (and_parts _ _ usable).1 in
    let rival = none_passes (is_rival shape way key) es i e at none in
    shut ((way == 1) || (way == 2)) (clashes shape way e.key key) (clashes-sym shape way e.key key ∙ bare (is_outside e) (is_of key e) (clashes shape way key e.key) out other rival)
  where
    bare : (a b c : Bool) → a ≡ true → b ≡ false → (a && (not b && c)) ≡ false → c ≡ false
    bare true false c s t h = h
    bare true true c s t h = absurd cc
    bare false b c s t h = absurd cc

    shut : (a c : Bool) → c ≡ false → (a && c) ≡ false
    shut true c e = e
    shut false c e = refl

-- where the key is clear and the place usable for it, each entry that was clear stays so, and the key's own is
pub each_clear : (shape : Shape) (es : List Entry) (key : KeyView) (place : Place) (i : ℕ) (e : Entry) → is_clear shape es key ≡ true → is_usable shape es key place ≡ true
    → ((x : Entry) → slice_get es i ≡ Some x → is_of key x ≡ false → x ≡ e → is_clear shape es x.key ≡ true)
    → slice_get (with_changed (settled place) key es) i ≡ Some e → is_outside e ≡ true → is_clear shape (with_changed (settled place) key es) e.key ≡ true
each_clear shape es key place i e own usable clear at out = by (slice_get es i) refl (sym (get_mapped (λ x. cond (is_of key x) (settled place x) x) es i) ∙ at)
  where
    turned : (b : Bool) → b ≡ false → not b ≡ true
    turned true e = absurd cc
    turned false e = refl

    of : (x : Entry) (b : Bool) → is_of key x ≡ b → slice_get es i ≡ Some x → cond b (settled place x) x ≡ e → is_clear shape (with_changed (settled place) key es) e.key ≡ true
    of x true t at it =
        let k : key ≡ e.key = same_key-true key x.key t ∙ ap (λ y. y.key) it in
        subst (λ y. is_clear shape (with_changed (settled place) key es) y ≡ true) k (turned _ (own_clear shape key place es (not-true _ own)))
    of x false t at it =
        let outside : is_outside x ≡ true = subst (λ y. is_outside y ≡ true) (sym it) out in
        subst (λ y. is_clear shape (with_changed (settled place) key es) y.key ≡ true) it
        (turned _ (other_clear shape x.key key place es (apart_there shape es key place i x usable at outside t) (not-true _ (clear x at t it))))

    by : (o : Option Entry) → slice_get es i ≡ o → option_map (λ x. cond (is_of key x) (settled place x) x) o ≡ Some e → is_clear shape (with_changed (settled place) key es) e.key ≡ true
    by None f h = absurd cc
    by (Some x) f h = of x (is_of key x) refl f (some_same _ e h)

pub planned_slot_clear : (shape : Shape) (es : List Entry) (key : KeyView) (place : Place) → first_plan shape es key ≡ plan.Slot place → AllClearBut key shape es → AllClear shape (with_changed (settled place) key es)
planned_slot_clear shape es key place h clear i e at out =
    let p = planned shape es key place (slot_first shape es key place h) in
    each_clear shape es key place i e p.0 (found_passes (is_usable shape es key) (key_slots shape key) place p.1) (λ x found t it. clear i x found t (subst (λ y. is_outside y ≡ true) (sym it) out)) at out
