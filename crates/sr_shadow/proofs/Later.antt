-- The ways after the first.
use Rattle.std.proofs.Common.{◌≡◌, ℕ, List, [], ◌∷◌, find, Option, None, Some, option_map, refl, sym, ◌∙◌, ap}
use Rattle.std.specs.Prelude.{unwrap_or}
use Rattle.std.specs.Option.{option_or}
use Rattle.sr_base.specs.Key.{KeyView}
use Rattle.sr_base.specs.declared.place.Place.{Place}
use Rattle.sr_base.specs.declared.place.Place.TheVariants.{Slot, Row}
use Rattle.sr_base.specs.declared.shape.Shape.{Shape}
use Rattle.sr_shadow.specs.Plan.{first_move, first_plan, first_usable, is_clear, is_clear_but, is_free, key_rows, key_slots, move_at, move_from, move_if_clear, move_plan, move_to, row_plan, slot_if_clear, slot_plan, slot_then, target, other_way, entry_at}
use Rattle.sr_shadow.specs.declared.entry.Entry.{Entry}
use Rattle.sr_shadow.specs.declared.plan.Plan.{Plan}
use Rattle.sr_shadow.specs.declared.plan.Plan.TheVariants as plan
use Rattle.std.proofs.Common.{Bool, true, false}

-- the plan is of the first way, and a way gives its own kind of plan
pub data Kind : Type 0 where
  slots : Kind
  moves : Kind
  rows : Kind
  nowhere : Kind

pub kind_of : Plan → Kind
kind_of (plan.Slot place) = slots
kind_of (plan.Move key from to last) = moves
kind_of (plan.FullKey row) = rows
kind_of plan.NoRoom = nowhere

abbrev IsOf : Kind → Option Plan → Type 0
IsOf k None = Unit {0}
IsOf k (Some p) = kind_of p ≡ k

pub slot_kind : (shape : Shape) (es : List Entry) (key : KeyView) → IsOf slots (slot_plan shape es key)
unfolding kind_of
slot_kind shape es key = by (is_clear shape es key) (first_usable shape es key (key_slots shape key))
  where
    by : (b : Bool) (o : Option Place) → IsOf slots (slot_if_clear b o)
    by b None = tt
    by true (Some place) = refl
    by false (Some place) = tt

move_kind_from : (shape : Shape) (es : List Entry) (key : KeyView) (slot : Place) → IsOf moves (move_from shape es key slot)
unfolding kind_of
move_kind_from shape es key (Row row) = tt
move_kind_from shape es key (Slot way bucket cell) = by (entry_at (Slot way bucket cell) es)
  where
    last : (b : Bool) (k : KeyView) (from to : Place) (o : Option Place) → IsOf moves (move_if_clear b k from to o)
    last b k from to None = tt
    last true k from to (Some p) = refl
    last false k from to (Some p) = tt

    there : (k : KeyView) (from : Place) (o : Option Place) → IsOf moves (move_to shape es key k from o)
    there k from None = tt
    there k from (Some to) = last (is_clear_but shape es key k) k from to (slot_then shape es key k to)

    by : (o : Option Entry) → IsOf moves (move_at shape es key way (Slot way bucket cell) o)
    by None = tt
    by (Some e) = there e.key (Slot way bucket cell) (target shape es key e.key (other_way way))

pub move_kind : (shape : Shape) (es : List Entry) (key : KeyView) (places : List Place) → IsOf moves (first_move shape es key places)
move_kind shape es key [] = tt
move_kind shape es key (slot ∷ places) = by (move_from shape es key slot) (first_move shape es key places) (move_kind_from shape es key slot) (move_kind shape es key places)
  where
    by : (a b : Option Plan) → IsOf moves a → IsOf moves b → IsOf moves (option_or a b)
    by None b h k = k
    by (Some p) b h k = h

pub row_kind : (shape : Shape) (es : List Entry) (key : KeyView) → IsOf rows (row_plan shape es key)
unfolding kind_of
row_kind shape es key = by (find (λ row. is_free es (Row row)) (key_rows shape key))
  where
    by : (o : Option ℕ) → IsOf rows (option_map plan.FullKey o)
    by None = tt
    by (Some row) = refl

-- by the kinds of the three
full_by : (a b c : Option Plan) (row : ℕ) → IsOf slots a → IsOf moves b → unwrap_or (option_or a (option_or b c)) plan.NoRoom ≡ plan.FullKey row → (a ≡ None) × (b ≡ None)
unfolding kind_of
full_by None None c row h k e = (refl, refl)
full_by None (Some p) c row h k e = let bad : rows ≡ moves = sym (ap kind_of e) ∙ k in absurd cc
full_by (Some p) b c row h k e = let bad : rows ≡ slots = sym (ap kind_of e) ∙ h in absurd cc

none_by : (a b c : Option Plan) → IsOf slots a → IsOf moves b → IsOf rows c → unwrap_or (option_or a (option_or b c)) plan.NoRoom ≡ plan.NoRoom → (a ≡ None) × (b ≡ None) × (c ≡ None)
unfolding kind_of
none_by None None None h k l e = (refl, refl, refl)
none_by None None (Some p) h k l e = let bad : nowhere ≡ rows = sym (ap kind_of e) ∙ l in absurd cc
none_by None (Some p) c h k l e = let bad : nowhere ≡ moves = sym (ap kind_of e) ∙ k in absurd cc
none_by (Some p) b c h k l e = let bad : nowhere ≡ slots = sym (ap kind_of e) ∙ h in absurd cc

slot_by : (a b c : Option Plan) (place : Place) → IsOf moves b → IsOf rows c → unwrap_or (option_or a (option_or b c)) plan.NoRoom ≡ plan.Slot place → a ≡ Some (plan.Slot place)
unfolding kind_of
slot_by (Some p) b c place k l e = ap Some e
slot_by None (Some p) c place k l e = let bad : slots ≡ moves = sym (ap kind_of e) ∙ k in absurd cc
slot_by None None (Some p) place k l e = let bad : slots ≡ rows = sym (ap kind_of e) ∙ l in absurd cc
slot_by None None None place k l e = absurd cc

move_by : (a b c : Option Plan) (p : Plan) → IsOf slots a → IsOf rows c → kind_of p ≡ moves → unwrap_or (option_or a (option_or b c)) plan.NoRoom ≡ p → b ≡ Some p
unfolding kind_of
move_by (Some q) b c p h l m e = let bad : moves ≡ slots = sym m ∙ sym (ap kind_of e) ∙ h in absurd cc
move_by None (Some q) c p h l m e = ap Some e
move_by None None (Some q) p h l m e = let bad : moves ≡ rows = sym m ∙ sym (ap kind_of e) ∙ l in absurd cc
move_by None None None p h l m e = let bad : moves ≡ nowhere = sym m ∙ sym (ap kind_of e) in absurd cc

row_by : (a b c : Option Plan) (row : ℕ) → IsOf slots a → IsOf moves b → unwrap_or (option_or a (option_or b c)) plan.NoRoom ≡ plan.FullKey row → c ≡ Some (plan.FullKey row)
unfolding kind_of
row_by None None (Some p) row h k e = ap Some e
row_by None None None row h k e = absurd cc
row_by None (Some p) c row h k e = let bad : rows ≡ moves = sym (ap kind_of e) ∙ k in absurd cc
row_by (Some p) b c row h k e = let bad : rows ≡ slots = sym (ap kind_of e) ∙ h in absurd cc

pub full_key_last : (shape : Shape) (es : List Entry) (key : KeyView) (row : ℕ) → first_plan shape es key ≡ plan.FullKey row → (slot_plan shape es key ≡ None) × (move_plan shape es key ≡ None)
unfolding first_plan
full_key_last shape es key row e = full_by (slot_plan shape es key) (move_plan shape es key) (row_plan shape es key) row (slot_kind shape es key) (move_kind shape es key (key_slots shape key)) e

pub row_first : (shape : Shape) (es : List Entry) (key : KeyView) (row : ℕ) → first_plan shape es key ≡ plan.FullKey row → row_plan shape es key ≡ Some (plan.FullKey row)
unfolding first_plan
row_first shape es key row e = row_by (slot_plan shape es key) (move_plan shape es key) (row_plan shape es key) row (slot_kind shape es key) (move_kind shape es key (key_slots shape key)) e

pub no_room_none : (shape : Shape) (es : List Entry) (key : KeyView) → first_plan shape es key ≡ plan.NoRoom → (slot_plan shape es key ≡ None) × (move_plan shape es key ≡ None) × (row_plan shape es key ≡ None)
unfolding first_plan
no_room_none shape es key e = none_by (slot_plan shape es key) (move_plan shape es key) (row_plan shape es key) (slot_kind shape es key) (move_kind shape es key (key_slots shape key)) (row_kind shape es key) e

pub none_no_room : (shape : Shape) (es : List Entry) (key : KeyView) → slot_plan shape es key ≡ None → move_plan shape es key ≡ None → row_plan shape es key ≡ None → first_plan shape es key ≡ plan.NoRoom
unfolding first_plan
none_no_room shape es key a b c = rw (a, b, c) refl

pub slot_first : (shape : Shape) (es : List Entry) (key : KeyView) (place : Place) → first_plan shape es key ≡ plan.Slot place → slot_plan shape es key ≡ Some (plan.Slot place)
unfolding first_plan
slot_first shape es key place e = slot_by (slot_plan shape es key) (move_plan shape es key) (row_plan shape es key) place (move_kind shape es key (key_slots shape key)) (row_kind shape es key) e

pub move_first : (shape : Shape) (es : List Entry) (key other : KeyView) (from to last : Place) → first_plan shape es key ≡ plan.Move other from to last → move_plan shape es key ≡ Some (plan.Move other from to last)
unfolding first_plan kind_of
move_first shape es key other from to last e =
    move_by (slot_plan shape es key) (move_plan shape es key) (row_plan shape es key) (plan.Move other from to last) (slot_kind shape es key) (row_kind shape es key) refl e

pub slot_is_first : (shape : Shape) (es : List Entry) (key : KeyView) (place : Place) → slot_plan shape es key ≡ Some (plan.Slot place) → first_plan shape es key ≡ plan.Slot place
unfolding first_plan
slot_is_first shape es key place e = ap (λ s. unwrap_or (option_or s (option_or (move_plan shape es key) (row_plan shape es key))) plan.NoRoom) e
