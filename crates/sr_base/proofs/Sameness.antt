-- Keys and places that are one are equal.
use Rattle.std.proofs.Common.{◌≡◌, true, sym, true≢false, arith}
use Rattle.std.proofs.lemmas.Bool.Decides.{nat_tests}
use Rattle.sr_base.specs.Key.{KeyView, same_key}
use Rattle.sr_base.specs.Place.{same_place}
use Rattle.sr_base.specs.declared.place.Place.{Place}
use Rattle.sr_base.specs.declared.place.Place.TheVariants.{Slot, Row}

-- equal parts, equal keys
pub same_key-true : (a b : KeyView) → same_key a b ≡ true → a ≡ b
same_key-true a b h = grind (arith, nat_tests)

pub same_key-self : (a : KeyView) → same_key a a ≡ true
same_key-self a = grind (arith, nat_tests)

pub same_key-sym : (a b : KeyView) → same_key a b ≡ same_key b a
same_key-sym a b = grind (arith, nat_tests)

-- equal parts, equal places
pub same_place-true : (a b : Place) → same_place a b ≡ true → a ≡ b
same_place-true (Slot w b c) (Slot v d e) h = grind (arith, nat_tests)
same_place-true (Slot w b c) (Row r) h = absurd (true≢false (sym h))
same_place-true (Row r) (Slot w b c) h = absurd (true≢false (sym h))
same_place-true (Row r) (Row s) h = grind (arith, nat_tests)

pub same_place-self : (a : Place) → same_place a a ≡ true
same_place-self (Slot w b c) = grind (arith, nat_tests)
same_place-self (Row r) = grind (arith, nat_tests)
