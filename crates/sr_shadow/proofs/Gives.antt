-- What the ways to place a key give: slots and rows of its own, which nobody holds.
use Rattle.std.proofs.Common.{◌≡◌, ◌+◌, ◌*◌, ◌/◌, ◌%◌, ◌<◌, ◌≤◌, ℕ, Bool, true, false, cond, ◌&&◌, ◌||◌, List, [], ◌∷◌, find, Option, None, Some, refl, sym, ◌∙◌, ap, arith}
use Rattle.std.proofs.lemmas.Bool.{and_parts, eq-eqb, eqb-true}
use Rattle.std.proofs.lemmas.Bool.Decides.{nat_tests}
use Rattle.std.proofs.lemmas.List.Folds.{find-append}
use Rattle.std.proofs.lemmas.Nat.{mod_below}
use Rattle.std.specs.Prelude.{◌==◌, is_none, nat_lt}
use Rattle.std.specs.List.{list_all}
use Rattle.std.specs.Option.{option_or}
use Rattle.sr_base.specs.Key.{KeyView}
use Rattle.sr_base.specs.declared.place.Place.{Place}
use Rattle.sr_base.specs.declared.place.Place.TheVariants.{Slot, Row}
use Rattle.sr_base.specs.declared.shape.Shape.{Shape}
use Rattle.sr_base.specs.WordName.{HasPlace}
use Rattle.sr_hash.specs.Keyed.{hash_of}
use Rattle.sr_hash.specs.Uses.{bucket_of, group_of, is_place_of}
use Rattle.sr_shadow.specs.Book.{holder_of}
use Rattle.sr_shadow.specs.Entry.{is_slot}
use Rattle.sr_shadow.specs.Plan.{is_free, is_usable, key_rows, key_slots, other_way, slots_in, slots_of}
use Rattle.sr_shadow.specs.declared.entry.Entry.{Entry}
use Rattle.sr_shadow.proofs.Finding.{found_all}

same_number : (n : ℕ) → (n == n) ≡ true
same_number n = eq-eqb n n refl

-- ---- slots

-- a cell of this bucket
abbrev pub in_bucket : ℕ → ℕ → Place → Bool
in_bucket way bucket (Slot w b c) = (w == way) && (b == bucket)
in_bucket way bucket (Row row) = false

all_in_bucket : (way bucket : ℕ) → list_all (in_bucket way bucket) (slots_in way bucket) ≡ true
all_in_bucket way bucket = rw (same_number way, same_number bucket) refl

pub found_in_bucket : (p : Place → Bool) (way bucket : ℕ) (place : Place) → find p (slots_in way bucket) ≡ Some place → in_bucket way bucket place ≡ true
found_in_bucket p way bucket place h = found_all p (in_bucket way bucket) (slots_in way bucket) place (all_in_bucket way bucket) h

-- two cells of one bucket are of one way
pub in_one : (way bucket v g h w c d : ℕ) → in_bucket way bucket (Slot v g h) ≡ true → in_bucket way bucket (Slot w c d) ≡ true → v ≡ w
in_one way bucket v g h w c d p q =
    eqb-true v way (and_parts (v == way) (g == bucket) p).0 ∙ sym (eqb-true w way (and_parts (w == way) (c == bucket) q).0)

-- the slots of a key are places of it
own_slots : (shape : Shape) (way : ℕ) (key : KeyView) → ((way == 1) || (way == 2)) ≡ true → list_all (is_place_of shape key) (slots_of shape way key) ≡ true
own_slots shape way key is = rw (is, same_number (bucket_of way key shape.buckets)) refl

pub found_own_in : (p : Place → Bool) (shape : Shape) (way : ℕ) (key : KeyView) (place : Place) → ((way == 1) || (way == 2)) ≡ true → find p (slots_of shape way key) ≡ Some place → is_place_of shape key place ≡ true
found_own_in p shape way key place is h = found_all p (is_place_of shape key) (slots_of shape way key) place (own_slots shape way key is) h

pub key_slots_own : (shape : Shape) (key : KeyView) → list_all (is_place_of shape key) (key_slots shape key) ≡ true
key_slots_own shape key = rw (same_number (bucket_of 1 key shape.buckets), same_number (bucket_of 2 key shape.buckets)) refl

pub found_own_slot : (p : Place → Bool) (shape : Shape) (key : KeyView) (place : Place) → find p (key_slots shape key) ≡ Some place → is_place_of shape key place ≡ true
found_own_slot p shape key place h = found_all p (is_place_of shape key) (key_slots shape key) place (key_slots_own shape key) h

pub other_way_one : (way : ℕ) → ((other_way way == 1) || (other_way way == 2)) ≡ true
other_way_one way = by (way == 1)
  where
    by : (b : Bool) → ((cond b 2 1 == 1) || (cond b 2 1 == 2)) ≡ true
    by true = refl
    by false = refl

-- what none of the key's slots passes, none of its bucket does in which a place of it is
pub none_in_bucket : (p : Place → Bool) (shape : Shape) (key : KeyView) (way bucket : ℕ) (place : Place) → in_bucket way bucket place ≡ true → is_place_of shape key place ≡ true
    → find p (key_slots shape key) ≡ None → find p (slots_in way bucket) ≡ None
none_in_bucket p shape key way bucket (Row row) here own none = absurd cc
none_in_bucket p shape key way bucket (Slot w b c) here own none =
    let at = and_parts (w == way) (b == bucket) here in
    let mine = and_parts (((w == 1) || (w == 2)) && (b == bucket_of w key shape.buckets)) (nat_lt c 4) own in
    let way_in = and_parts ((w == 1) || (w == 2)) (b == bucket_of w key shape.buckets) mine.0 in
    let ways : w ≡ way = eqb-true w way at.0 in
    let buckets : b ≡ bucket = eqb-true b bucket at.1 in
    let same : b ≡ bucket_of w key shape.buckets = eqb-true b (bucket_of w key shape.buckets) way_in.1 in
    ap (λ n. find p (slots_in n bucket)) (sym ways) ∙ ap (λ n. find p (slots_in w n)) (sym buckets ∙ same) ∙ of w way_in.0
  where
    first : (a b : Option Place) → option_or a b ≡ None → a ≡ None
    first None b h = refl
    first (Some x) b h = absurd cc

    second : (a b : Option Place) → option_or a b ≡ None → b ≡ None
    second None b h = h
    second (Some x) b h = absurd cc

    parted : option_or (find p (slots_of shape 1 key)) (find p (slots_of shape 2 key)) ≡ None
    parted = sym (find-append p (slots_of shape 1 key) (slots_of shape 2 key)) ∙ none

    by : (n : ℕ) (b d : Bool) → (n == 1) ≡ b → (n == 2) ≡ d → (b || d) ≡ true → find p (slots_of shape n key) ≡ None
    by n true d t u is = ap (λ m. find p (slots_of shape m key)) (eqb-true n 1 t) ∙ first (find p (slots_of shape 1 key)) (find p (slots_of shape 2 key)) parted
    by n false true t u is = ap (λ m. find p (slots_of shape m key)) (eqb-true n 2 u) ∙ second (find p (slots_of shape 1 key)) (find p (slots_of shape 2 key)) parted
    by n false false t u is = absurd cc

    of : (n : ℕ) → ((n == 1) || (n == 2)) ≡ true → find p (slots_of shape n key) ≡ None
    of n is = by n (n == 1) (n == 2) refl refl is

-- a usable place is a slot that nobody holds
pub usable_is_slot : (shape : Shape) (es : List Entry) (key : KeyView) (place : Place) → is_usable shape es key place ≡ true → is_slot place ≡ true
usable_is_slot shape es key (Slot way bucket cell) h = refl
usable_is_slot shape es key (Row row) h = absurd cc

pub free_is : (es : List Entry) (place : Place) → is_free es place ≡ true → holder_of place es ≡ None
free_is es place h = by (holder_of place es) h
  where
    by : (o : Option KeyView) → is_none o ≡ true → o ≡ None
    by None h = refl
    by (Some k) h = absurd cc

pub usable_is_free : (shape : Shape) (es : List Entry) (key : KeyView) (place : Place) → is_usable shape es key place ≡ true → holder_of place es ≡ None
usable_is_free shape es key (Slot way bucket cell) h = free_is es (Slot way bucket cell) (and_parts (is_free es (Slot way bucket cell)) _ h).0
usable_is_free shape es key (Row row) h = absurd cc

-- ---- rows

-- the rows of a key's group are places of it
own_rows : (shape : Shape) (key : KeyView) → list_all (λ row. is_place_of shape key (Row row)) (key_rows shape key) ≡ true
own_rows shape key = by (group_of key shape.full_rows)
  where
    in_group : (g n : ℕ) → n / 4 ≡ g → (n / 4 == g) ≡ true
    in_group g n e = eq-eqb (n / 4) g e

    by : (g : ℕ) → list_all (λ row. row / 4 == g) (4 * g ∷ (4 * g + 1) ∷ (4 * g + 2) ∷ (4 * g + 3) ∷ []) ≡ true
    by g =
        let a = in_group g (4 * g) (omega arith) in
        let b = in_group g (4 * g + 1) (omega arith) in
        let c = in_group g (4 * g + 2) (omega arith) in
        let d = in_group g (4 * g + 3) (omega arith) in
        rw (a, b, c, d) refl

pub found_own_row : (p : ℕ → Bool) (shape : Shape) (key : KeyView) (row : ℕ) → find p (key_rows shape key) ≡ Some row → is_place_of shape key (Row row) ≡ true
found_own_row p shape key row h = found_all p (λ n. is_place_of shape key (Row n)) (key_rows shape key) row (own_rows shape key) h

-- and the layout has the places of a key
pub own_stands : (shape : Shape) (key : KeyView) (place : Place) → 1 ≤ shape.buckets → 4 ≤ shape.full_rows → shape.full_rows % 4 ≡ 0 → is_place_of shape key place ≡ true → HasPlace shape place
own_stands shape key (Slot way bucket cell) some few whole own =
    let b = and_parts (((way == 1) || (way == 2)) && (bucket == bucket_of way key shape.buckets)) (nat_lt cell 4) own in
    let a = and_parts ((way == 1) || (way == 2)) (bucket == bucket_of way key shape.buckets) b.0 in
    let at : bucket ≡ bucket_of way key shape.buckets = eqb-true bucket (bucket_of way key shape.buckets) a.1 in
    let below : bucket_of way key shape.buckets < shape.buckets = mod_below (hash_of way key) shape.buckets (omega arith) in
    (grind (arith, nat_tests, a.0), grind (arith, nat_tests, a.0), omega arith, grind (arith, nat_tests, b.1))
own_stands shape key (Row row) some few whole own =
    let at : row / 4 ≡ group_of key shape.full_rows = eqb-true (row / 4) (group_of key shape.full_rows) own in
    let below : group_of key shape.full_rows < shape.full_rows / 4 = mod_below (hash_of 8 key) (shape.full_rows / 4) (omega arith) in
    omega arith
