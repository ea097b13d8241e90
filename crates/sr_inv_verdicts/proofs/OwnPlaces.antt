-- The places that packets of a key look at are places of the key.
use Rattle.std.proofs.Common.{◌≡◌, ℕ, ◌+◌, ◌*◌, ◌/◌, ◌<◌, ◌&&◌, ◌||◌, ◌==◌, nat_lt, Bool, true, false, refl, arith}
use Rattle.std.proofs.lemmas.Bool.Decides.{nat_tests}
use Rattle.sr_base.specs.Key.{KeyView}
use Rattle.sr_base.specs.Layout.{LayoutView}
use Rattle.sr_base.specs.declared.place.Place.{Place}
use Rattle.sr_base.specs.declared.place.Place.TheVariants.{Row, Slot}
use Rattle.sr_base.specs.declared.shape.Shape.{Shape}
use Rattle.sr_hash.specs.Uses.{bucket_of, group_of, is_place_of}
use Rattle.sr_inv_facts.proofs.Lists.{all_in}
use Rattle.sr_inv_facts.specs.Readings.{In}
use Rattle.sr_machine.specs.Stages.{key_places}

row_own : (shape : Shape) (key : KeyView) (n : ℕ) → n < 4 → is_place_of shape key (Row (4 * group_of key shape.full_rows + n)) ≡ true
row_own shape key n h =
    let same : (4 * group_of key shape.full_rows + n) / 4 ≡ group_of key shape.full_rows = omega (arith, h) in
    grind (arith, nat_tests)

row_first : (shape : Shape) (key : KeyView) → is_place_of shape key (Row (4 * group_of key shape.full_rows)) ≡ true
row_first shape key =
    let same : (4 * group_of key shape.full_rows) / 4 ≡ group_of key shape.full_rows = omega arith in
    grind (arith, nat_tests)

slot_own : (shape : Shape) (key : KeyView) (way cell : ℕ) → ((way == 1) || (way == 2)) ≡ true → cell < 4
    → is_place_of shape key (Slot way (bucket_of way key shape.buckets) cell) ≡ true
slot_own shape key way cell w h =
    at ((way == 1) || (way == 2)) (bucket_of way key shape.buckets == bucket_of way key shape.buckets) (nat_lt cell 4) w (grind (arith, nat_tests)) (grind (arith, nat_tests))
  where
    at : (a b c : Bool) → a ≡ true → b ≡ true → c ≡ true → ((a && b) && c) ≡ true
    at true true true e f g = refl
    at true true false e f g = cc
    at true false c e f g = cc
    at false b c e f g = cc

pub looked_own : (l : LayoutView) (key : KeyView) (place : Place) → In place (key_places l key) → is_place_of l.shape key place ≡ true
looked_own l key place h =
    let s = l.shape in
    all_in (λ p. is_place_of l.shape key p ≡ true) (key_places l key) place (
      row_first s key,
      (
        row_own s key 1 (omega arith),
        (
          row_own s key 2 (omega arith),
          (
            row_own s key 3 (omega arith),
            (
              slot_own s key 1 0 refl (omega arith),
              (
                slot_own s key 1 1 refl (omega arith),
                (
                  slot_own s key 1 2 refl (omega arith),
                  (
                    slot_own s key 1 3 refl (omega arith),
                    (slot_own s key 2 0 refl (omega arith), (slot_own s key 2 1 refl (omega arith), (slot_own s key 2 2 refl (omega arith), (slot_own s key 2 3 refl (omega arith), tt)))),
                  ),
                ),
              ),
            ),
          ),
        ),
      ),
    )
    h
