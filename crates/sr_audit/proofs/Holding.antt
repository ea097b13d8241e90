-- Steps of the index of places.
use Rattle.std.proofs.Common.{◌≡◌, ℕ, true, ◌&&◌, cond, List, ◌∷◌, Option, None, Some, sym, ap, ◌∙◌, inl, inr, arith}
use Rattle.std.specs.Prelude.{nat_eq, option_map}
use Rattle.std.specs.BTreeMap.{get, is_at}
use Rattle.std.specs.Ordering.{nat_cmp}
use Rattle.std.proofs.lemmas.Bool.{cases_Bool}
use Rattle.std.proofs.lemmas.Bool.Decides.{nat_tests}
use Rattle.std.proofs.lemmas.Grind.{common_steps}
use Rattle.sr_base.specs.Key.{KeyView}
use Rattle.sr_base.specs.Place.{same_place}
use Rattle.sr_base.specs.declared.place.Place.{Place}
use Rattle.sr_base.specs.declared.place.Place.TheVariants.{Slot, Row}
use Rattle.sr_base.proofs.Sameness.{same_place-true}
use Rattle.sr_law.specs.declared.line.Line.{Line}
use Rattle.sr_law.specs.declared.line.Line.TheVariants.{Placed}
use Rattle.sr_law.specs.declared.taking.Taking.{Taking}
use Rattle.sr_law.specs.Taken.{now_placed, taken}
use Rattle.sr_audit.specs.declared.places.Places.{Places}
use Rattle.sr_audit.specs.Places.{slot_cmp, SetsHolder}

same_slot : (w b c v d e : ℕ) → is_at (slot_cmp (w, b, c)) (v, d, e) ≡ (nat_eq w v && (nat_eq b d && nat_eq c e))
same_slot w b c v d e = grind (arith, common_steps, nat_tests)

-- a slot with another holder
pub slot_set : (old new : Places) (w b c : ℕ) (value : Option Taking) → new.rows ≡ old.rows
    → ((q : ℕ × ℕ × ℕ) → get slot_cmp new.slots q ≡ cond (is_at (slot_cmp (w, b, c)) q) value (get slot_cmp old.slots q))
    → SetsHolder old new (Slot w b c) value
slot_set old new w b c value rows step (Slot v d e) = step (v, d, e) ∙ ap (λ t. cond t value (get slot_cmp old.slots (v, d, e))) (same_slot w b c v d e)
slot_set old new w b c value rows step (Row r) = ap (λ m. get nat_cmp m r) rows

-- the entry at a place is placed
pub placed_more : (old new : Place → Option Taking) (before : List Line) (out : ℕ) (own : KeyView) (place : Place) (taking : Taking) → old place ≡ Some taking
    → ((other : Place) → new other ≡ cond (same_place place other) (Some (record { key = taking.key; placed = true })) (old other))
    → ((other : Place) → old other ≡ taken before other)
    → (other : Place) → new other ≡ taken (Placed out own place ∷ before) other
placed_more old new before out own place taking found step h other =
    step other ∙ elim (cases_Bool (same_place place other)) [
      | inl t ↦
          let here : taken before other ≡ Some taking = sym (h other) ∙ ap old (sym (same_place-true place other t)) ∙ found in
          ap (λ b. cond b (Some (record { key = taking.key; placed = true })) (old other)) t
          ∙ sym (ap (λ b. cond b (option_map now_placed (taken before other)) (taken before other)) t ∙ ap (option_map now_placed) here)
      | inr f ↦
          ap (λ b. cond b (Some (record { key = taking.key; placed = true })) (old other)) f ∙ h other
          ∙ sym (ap (λ b. cond b (option_map now_placed (taken before other)) (taken before other)) f)
    ]

-- nobody has the place that is placed
pub placed_none : (old : Place → Option Taking) (before : List Line) (out : ℕ) (own : KeyView) (place : Place) → old place ≡ None
    → ((other : Place) → old other ≡ taken before other)
    → (other : Place) → old other ≡ taken (Placed out own place ∷ before) other
placed_none old before out own place none h other =
    h other ∙ elim (cases_Bool (same_place place other)) [
      | inl t ↦
          let here : taken before other ≡ None = sym (h other) ∙ ap old (sym (same_place-true place other t)) ∙ none in
          here ∙ sym (ap (λ b. cond b (option_map now_placed (taken before other)) (taken before other)) t ∙ ap (option_map now_placed) here)
      | inr f ↦ sym (ap (λ b. cond b (option_map now_placed (taken before other)) (taken before other)) f)
    ]
