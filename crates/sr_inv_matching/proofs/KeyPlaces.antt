-- Each place of a key is one that its packets look at.
use Rattle.std.proofs.Common.{◌≡◌, ℕ, zero, suc, ◌+◌, ◌*◌, ◌/◌, ◌%◌, ◌==◌, ◌<◌, ◌≤◌, ◌≢◌, Bool, true, false, ◌⊎◌, ◌||◌, List, [], ◌∷◌, ◌++◌, sym, refl, ap, ◌∙◌, inl, inr, arith, div-add-mod', ◌&&◌, nat_lt, subst}
use Rattle.std.proofs.lemmas.Bool.Decides.{nat_tests}
use Rattle.sr_base.specs.Key.{KeyView}
use Rattle.sr_base.specs.Layout.{LayoutView}
use Rattle.sr_base.specs.declared.place.Place.{Place}
use Rattle.sr_base.specs.declared.place.Place.TheVariants.{Row, Slot}
use Rattle.sr_hash.specs.Uses.{bucket_of, group_of, is_place_of}
use Rattle.sr_inv_facts.specs.Readings.{In}
use Rattle.sr_machine.specs.Stages.{key_places}
use Rattle.sr_shadow.specs.Plan.{key_slots, slots_in, slots_of}
use Rattle.std.proofs.lemmas.Bool.{cases_eq}
use Rattle.std.proofs.lemmas.Nat.{mod_below}

slot_there : (way bucket cell : ℕ) (rest : List Place) → cell < 4 → In (Slot way bucket cell) (slots_in way bucket ++ rest)
slot_there way bucket zero rest h = inl refl
slot_there way bucket (suc zero) rest h = inr (inl refl)
slot_there way bucket (suc (suc zero)) rest h = inr (inr (inl refl))
slot_there way bucket (suc (suc (suc zero))) rest h = inr (inr (inr (inl refl)))
slot_there way bucket (suc (suc (suc (suc cell)))) rest h = absurd (omega arith)

row_there : (row first : ℕ) (rest : List Place) → first ≤ row → row < first + 4
    → In (Row row) (Row first ∷ Row (first + 1) ∷ Row (first + 2) ∷ Row (first + 3) ∷ rest)
row_there row first rest a b = at (cases_eq row first) (cases_eq row (first + 1)) (cases_eq row (first + 2))
  where
    at : (row ≡ first) ⊎ (row ≢ first) → (row ≡ first + 1) ⊎ (row ≢ first + 1) → (row ≡ first + 2) ⊎ (row ≢ first + 2)
        → In (Row row) (Row first ∷ Row (first + 1) ∷ Row (first + 2) ∷ Row (first + 3) ∷ rest)
    at (inl x) y z = inl (ap Row x)
    at (inr x) (inl y) z = inr (inl (ap Row y))
    at (inr x) (inr y) (inl z) = inr (inr (inl (ap Row z)))
    at (inr x) (inr y) (inr z) = let last : row ≡ first + 3 = omega arith in inr (inr (inr (inl (ap Row last))))

-- each place of the key is one that its packets look at
pub place_looked : (l : LayoutView) (key : KeyView) (place : Place) → is_place_of l.shape key place ≡ true → In place (key_places l key)
place_looked l key (Row row) h =
    let group : row / 4 ≡ group_of key l.shape.full_rows = grind (arith, nat_tests) in
    let whole : row / 4 * 4 + row % 4 ≡ row = div-add-mod' row 4 in
    let low : row % 4 < 4 = mod_below row 4 (omega arith) in
    row_there row (4 * group_of key l.shape.full_rows) (key_slots l.shape key) (omega arith) (omega arith)
place_looked l key (Slot way bucket cell) h =
    at (way == 1) (way == 2) (bucket == bucket_of way key l.shape.buckets) (nat_lt cell 4) refl refl refl refl h
  where
    at : (a b c d : Bool) → (way == 1) ≡ a → (way == 2) ≡ b → (bucket == bucket_of way key l.shape.buckets) ≡ c → nat_lt cell 4 ≡ d
        → (((a || b) && c) && d) ≡ true → In (Slot way bucket cell) (key_places l key)
    at true b true true e f g i t =
        let first : way ≡ 1 = grind (arith, nat_tests) in
        let same : bucket ≡ bucket_of way key l.shape.buckets = grind (arith, nat_tests) in
        let own : bucket ≡ bucket_of 1 key l.shape.buckets = same ∙ ap (λ y. bucket_of y key l.shape.buckets) first in
        let few : cell < 4 = grind (arith, nat_tests) in
        inr (inr (inr (inr (subst (λ b. In (Slot way b cell) (key_slots l.shape key)) (sym own) (subst (λ y. In (Slot y (bucket_of 1 key l.shape.buckets) cell) (key_slots l.shape key)) (sym first) (slot_there 1 (bucket_of 1 key l.shape.buckets) cell (slots_of l.shape 2 key) few))))))
    at false true true true e f g i t =
        let second : way ≡ 2 = grind (arith, nat_tests) in
        let same : bucket ≡ bucket_of way key l.shape.buckets = grind (arith, nat_tests) in
        let own : bucket ≡ bucket_of 2 key l.shape.buckets = same ∙ ap (λ y. bucket_of y key l.shape.buckets) second in
        let few : cell < 4 = grind (arith, nat_tests) in
        inr (inr (inr (inr (inr (inr (inr (inr (subst (λ b. In (Slot way b cell) (slots_of l.shape 2 key)) (sym own) (subst (λ y. In (Slot y (bucket_of 2 key l.shape.buckets) cell) (slots_of l.shape 2 key)) (sym second) (slot_there 2 (bucket_of 2 key l.shape.buckets) cell [] few))))))))))
    at false false c d e f g i t = cc
    at true b false d e f g i t = cc
    at true b true false e f g i t = cc
    at false true false d e f g i t = cc
    at false true true false e f g i t = cc
