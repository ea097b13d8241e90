-- Clear keys: the entries that a key's packets are taken for are those that stand in slots and clash with the key there.
use Rattle.std.proofs.Common.{◌≡◌, ◌==◌, ℕ, ◌+◌, Bool, true, false, cond, ◌&&◌, ◌||◌, not, List, [], ◌∷◌, count_by, Option, None, Some, eqb, refl, sym, ap, subst, arith}
use Rattle.std.proofs.lemmas.Bool.{or_parts}
use Rattle.std.proofs.lemmas.Bool.Decides.{nat_tests}
use Rattle.std.proofs.lemmas.List.Sums.{sum_by-cons}
use Rattle.std.specs.Prelude.{is_some}
use Rattle.sr_base.specs.Key.{KeyView}
use Rattle.sr_base.specs.declared.place.Place.{Place}
use Rattle.sr_base.specs.declared.place.Place.TheVariants.{Slot, Row}
use Rattle.sr_base.specs.declared.shape.Shape.{Shape}
use Rattle.sr_hash.specs.Clash.{clashes}
use Rattle.sr_shadow.specs.Book.{entry_for, is_registered, is_stander, standing_of, DistinctKeys}
use Rattle.sr_shadow.specs.Entry.{is_of, is_placed, is_slot_in}
use Rattle.sr_shadow.specs.Plan.{clashes_at, is_clear_but, is_mistaken, is_mistaken_but}
use Rattle.sr_shadow.specs.declared.entry.Entry.{Entry}
use Rattle.sr_plan.specs.Clear.{mistaken_one}
use Rattle.sr_shadow.specs.Moves.{NonePlaced}
use Rattle.sr_base.proofs.Sameness.{same_key-true}
use Rattle.sr_shadow.proofs.Classes.{any_counted}

-- the entry is the other key's, and the key's packets are taken for its own
abbrev is_mistaken_of : Shape → KeyView → KeyView → Entry → Bool
is_mistaken_of shape key other e = is_of other e && is_mistaken shape key e

count_cons : (test : Entry → Bool) (e : Entry) (es : List Entry) → count_by test (e ∷ es) ≡ cond (test e) 1 0 + count_by test es
count_cons test e es = sum_by-cons (λ x. cond (test x) 1 0) e es

-- a slot of one way stands in that way alone
one_slot : (own : Bool) (n : ℕ) (first second here : Bool) → own ≡ false → ((n == 1) ≡ true → here ≡ first) → ((n == 2) ≡ true → here ≡ second)
    → cond ((n == 1) && first) 1 0 + cond ((n == 2) && second) 1 0 ≡ cond (not own && (((n == 1) || (n == 2)) && here)) 1 0
one_slot own n first second here free one two = by (n == 1) (n == 2) own first second here refl refl free one two
  where
    by : (p q o a b h : Bool) → (n == 1) ≡ p → (n == 2) ≡ q → o ≡ false → (p ≡ true → h ≡ a) → (q ≡ true → h ≡ b)
        → cond (p && a) 1 0 + cond (q && b) 1 0 ≡ cond (not o && ((p || q) && h)) 1 0
    by p q true a b h e f free one two = absurd cc
    by true true false a b h e f free one two = absurd (grind (arith, nat_tests))
    by true false false a b h e f free one two = grind (arith, one refl)
    by false true false a b h e f free one two = grind (arith, two refl)
    by false false false a b h e f free one two = refl

own_free : (own : Bool) → (own && true) ≡ false → own ≡ false
own_free true e = absurd cc
own_free false e = refl

none_there : (own : Bool) → 0 ≡ cond {A = ℕ} (not own && false) 1 0
none_there true = refl
none_there false = refl

stands_at : (shape : Shape) (key other : KeyView) (own : Bool) (place : Option Place) → (own && is_some place) ≡ false
    → cond (is_slot_in 1 place && clashes shape 1 key other) 1 0 + cond (is_slot_in 2 place && clashes shape 2 key other) 1 0 ≡ cond (not own && clashes_at shape key other place) 1 0
stands_at shape key other own None free = none_there own
stands_at shape key other own (Some (Row row)) free = none_there own
stands_at shape key other own (Some (Slot n bucket cell)) free =
    one_slot own n (clashes shape 1 key other) (clashes shape 2 key other) (clashes shape n key other) (own_free own free)
    (λ e. let is : n ≡ 1 = grind (arith, nat_tests) in ap (λ w. clashes shape w key other) is)
    (λ e. let is : n ≡ 2 = grind (arith, nat_tests) in ap (λ w. clashes shape w key other) is)

-- an entry that isn't a placed one of the key's own stands with a clash in one way exactly where the key's packets are taken for its own
stands_once : (shape : Shape) (key : KeyView) (e : Entry) → (is_of key e && is_placed e) ≡ false
    → cond (is_stander shape 1 key e) 1 0 + cond (is_stander shape 2 key e) 1 0 ≡ cond (is_mistaken shape key e) 1 0
stands_once shape key e free = stands_at shape key e.key (is_of key e) e.place free

parted : (other mistaken : Bool) → cond mistaken 1 0 ≡ cond {A = ℕ} (not other && mistaken) 1 0 + cond (other && mistaken) 1 0
parted true true = refl
parted true false = refl
parted false true = refl
parted false false = refl

-- those that stand with a clash are those that the key's packets are taken for, the other key's and the rest
standing_parted : (shape : Shape) (key other : KeyView) (es : List Entry) → NonePlaced key es
    → standing_of shape 1 key es + standing_of shape 2 key es ≡ count_by (is_mistaken_but shape key other) es + count_by (is_mistaken_of shape key other) es
standing_parted shape key other [] free = refl
standing_parted shape key other (e ∷ es) free =
    let parts = or_parts _ _ free in
    let rest = standing_parted shape key other es parts.1 in
    let once = stands_once shape key e parts.0 in
    let part = parted (is_of other e) (is_mistaken shape key e) in
    let a = count_cons (is_stander shape 1 key) e es in
    let b = count_cons (is_stander shape 2 key) e es in
    let c = count_cons (is_mistaken_but shape key other) e es in
    let d = count_cons (is_mistaken_of shape key other) e es in
    omega (arith, rest, once, part, a, b, c, d)

-- of a key that isn't registered there is none
none_of : (shape : Shape) (key other : KeyView) (es : List Entry) → is_registered other es ≡ false → count_by (is_mistaken_of shape key other) es ≡ 0
none_of shape key other [] free = refl
none_of shape key other (e ∷ es) free =
    let parts = or_parts _ _ free in
    let rest = none_of shape key other es parts.1 in
    let here : cond {A = ℕ} (is_mistaken_of shape key other e) 1 0 ≡ 0 = ap (λ b. cond (b && is_mistaken shape key e) 1 0) parts.0 in
    let c = count_cons (is_mistaken_of shape key other) e es in
    omega (arith, rest, here, c)

-- of a registered one its entry
one_of : (shape : Shape) (key other : KeyView) (es : List Entry) → DistinctKeys es → count_by (is_mistaken_of shape key other) es ≡ mistaken_one shape key (entry_for other es)
one_of shape key other [] d = refl
one_of shape key other (e ∷ es) d = by (is_of other e) refl (one_of shape key other es d.1)
  where
    c : count_by (is_mistaken_of shape key other) (e ∷ es) ≡ cond (is_mistaken_of shape key other e) 1 0 + count_by (is_mistaken_of shape key other) es
    c = count_cons (is_mistaken_of shape key other) e es

    by : (own : Bool) → is_of other e ≡ own → count_by (is_mistaken_of shape key other) es ≡ mistaken_one shape key (entry_for other es) → count_by (is_mistaken_of shape key other) (e ∷ es) ≡ mistaken_one shape key (cond own (Some e) (entry_for other es))
    by true t more =
        let same : other ≡ e.key = same_key-true other e.key t in
        let rest = none_of shape key other es (subst (λ k. is_registered k es ≡ false) (sym same) d.0) in
        let here : cond {A = ℕ} (is_mistaken_of shape key other e) 1 0 ≡ cond (is_mistaken shape key e) 1 0 = ap (λ b. cond (b && is_mistaken shape key e) 1 0) t in
        omega (arith, rest, here, c)
    by false t rest =
        let here : cond {A = ℕ} (is_mistaken_of shape key other e) 1 0 ≡ 0 = ap (λ b. cond (b && is_mistaken shape key e) 1 0) t in
        omega (arith, rest, here, c)

-- So the key is clear but for the other where no more stand with a clash than the other key's entry.
pub clear_counted : (shape : Shape) (key other : KeyView) (es : List Entry) → DistinctKeys es → NonePlaced key es
    → eqb (standing_of shape 1 key es + standing_of shape 2 key es) (mistaken_one shape key (entry_for other es)) ≡ is_clear_but shape es key other
clear_counted shape key other es d free =
    let parts = standing_parted shape key other es free in
    let one = one_of shape key other es d in
    let any = any_counted (is_mistaken_but shape key other) es in
    grind (arith, nat_tests, parts, one, any)
