-- The plan of a key without a Live place: the first way there is to place it, over the plain list of entries.
--
-- Places are tried in the order of the ways, and of the cells in a bucket: a slot of its buckets; a slot once one entry has moved; a row of its
-- group in the table of full keys.
use Rattle.std.specs.Prelude.{◌≡◌, ℕ, ◌+◌, ◌*◌, ◌==◌, Bool, true, false, not, ◌&&◌, ◌||◌, List, [], ◌∷◌, ◌++◌, is_none, Option, None, Some, find, IfSome, option_map, slice_get, unwrap_or, if◌then◌else◌}
use Rattle.std.specs.List.{list_any}
use Rattle.std.specs.Option.{option_or}
use Rattle.sr_base.specs.Key.{KeyView}
use Rattle.sr_base.specs.declared.place.Place.{Place}
use Rattle.sr_base.specs.declared.place.Place.TheVariants.{Slot, Row}
use Rattle.sr_base.specs.declared.shape.Shape.{Shape}
use Rattle.sr_hash.specs.Clash.{clashes}
use Rattle.sr_hash.specs.Uses.{bucket_of, group_of, is_place_of}
use Rattle.sr_shadow.specs.Book.{entry_for, entries_with, holder_of, is_clashing, with_changed}
use Rattle.sr_shadow.specs.Entry.{is_at, is_of, is_outside, is_slot}
use Rattle.sr_shadow.specs.declared.entry.Entry.{Entry}
use Rattle.sr_shadow.specs.declared.plan.Plan.{Plan}
use Rattle.sr_shadow.specs.declared.plan.Plan.TheVariants as plan

-- ---- places

-- the four slots of a bucket
abbrev pub slots_in : ℕ → ℕ → List Place
slots_in way bucket = Slot way bucket 0 ∷ Slot way bucket 1 ∷ Slot way bucket 2 ∷ Slot way bucket 3 ∷ []

-- those of the key's bucket of this way
abbrev pub slots_of : Shape → ℕ → KeyView → List Place
slots_of shape way key = slots_in way (bucket_of way key shape.buckets)

-- those of both its buckets, way 1 first
abbrev pub key_slots : Shape → KeyView → List Place
key_slots shape key = slots_of shape 1 key ++ slots_of shape 2 key

-- four rows, from the first on
abbrev pub rows_from : ℕ → List ℕ
rows_from first = first ∷ (first + 1) ∷ (first + 2) ∷ (first + 3) ∷ []

-- the four rows of the key's group
abbrev pub key_rows : Shape → KeyView → List ℕ
key_rows shape key = rows_from (4 * group_of key shape.full_rows)

-- nobody holds the place
abbrev pub is_free : List Entry → Place → Bool
is_free es place = is_none (holder_of place es)

-- ---- a slot

-- A slot of the key's bucket is usable where nobody holds it and no other registered key outside the full-key table clashes with the key in its
-- way: else that key's packets would be taken for this one's.
abbrev pub is_usable : Shape → List Entry → KeyView → Place → Bool
is_usable shape es key (Slot way bucket cell) = is_free es (Slot way bucket cell) && not (is_clashing shape way key es)
is_usable shape es key (Row row) = false

-- the first usable one of these slots
abbrev pub first_usable : Shape → List Entry → KeyView → List Place → Option Place
first_usable shape es key slots = find (is_usable shape es key) slots

-- the place is a slot of a way, 1 or 2, in which the two keys clash
abbrev pub clashes_at : Shape → KeyView → KeyView → Option Place → Bool
clashes_at shape key other None = false
clashes_at shape key other (Some (Slot way bucket cell)) = ((way == 1) || (way == 2)) && clashes shape way key other
clashes_at shape key other (Some (Row row)) = false

-- the key's packets are taken for those of the entry, which is another key's and has a slot as its Live place
abbrev pub is_mistaken : Shape → KeyView → Entry → Bool
is_mistaken shape key e = not (is_of key e) && clashes_at shape key e.key e.place

-- and it isn't this other key's entry
abbrev pub is_mistaken_but : Shape → KeyView → KeyView → Entry → Bool
is_mistaken_but shape key other e = not (is_of other e) && is_mistaken shape key e

-- the key is clear: its packets are taken for those of no entry
abbrev pub is_clear : Shape → List Entry → KeyView → Bool
is_clear shape es key = not (list_any (is_mistaken shape key) es)

-- they are taken for those of no entry but, perhaps, the other key's
abbrev pub is_clear_but : Shape → List Entry → KeyView → KeyView → Bool
is_clear_but shape es key other = not (list_any (is_mistaken_but shape key other) es)

-- the plan of a usable slot, if there is one and the key is clear
abbrev pub slot_if_clear : Bool → Option Place → Option Plan
slot_if_clear clear None = None
slot_if_clear clear (Some place) = if clear then Some (plan.Slot place) else None

-- the key's first usable slot, if the key is clear
abbrev pub slot_plan : Shape → List Entry → KeyView → Option Plan
slot_plan shape es key = slot_if_clear (is_clear shape es key) (first_usable shape es key (key_slots shape key))

-- ---- a move

-- the entry whose Live place this is
abbrev pub entry_at : Place → List Entry → Option Entry
entry_at place es = find (λ e. is_at place e.place) es

-- the entries where the key is registered
abbrev pub with_key : KeyView → List Entry → List Entry
with_key key es = entries_with key 0 0 es

-- way 1 and way 2 are each other's other way
abbrev pub other_way : ℕ → ℕ
other_way way = if way == 1 then 2 else 1

-- the first usable slot of an entry's bucket of this way, where the key that is planned counts as registered
abbrev pub target : Shape → List Entry → KeyView → KeyView → ℕ → Option Place
target shape es key other way = first_usable shape (with_key key es) other (slots_of shape way other)

-- the entry moved: it holds this place alone
abbrev pub moved : Place → Entry → Entry
moved to e = record e { place = Some to; also = None }

-- the entry, moved where it is this key's
abbrev pub moved_if : KeyView → Place → Entry → Entry
moved_if other to e = if is_of other e then moved to e else e

-- the entries with the key's moved
abbrev pub with_moved : KeyView → Place → List Entry → List Entry
with_moved other to es = with_changed (moved to) other es

-- the key's first usable slot with the entry there
abbrev pub slot_then : Shape → List Entry → KeyView → KeyView → Place → Option Place
slot_then shape es key other to = first_usable shape (with_moved other to es) key (key_slots shape key)

-- the move, if there is a last slot and the key that is planned is clear but for the one that moves
abbrev pub move_if_clear : Bool → KeyView → Place → Place → Option Place → Option Plan
move_if_clear clear other from to None = None
move_if_clear clear other from to (Some last) = if clear then Some (plan.Move other from to last) else None

-- the move of this key's entry to a slot, if there is one
abbrev pub move_to : Shape → List Entry → KeyView → KeyView → Place → Option Place → Option Plan
move_to shape es key other from None = None
move_to shape es key other from (Some to) = move_if_clear (is_clear_but shape es key other) other from to (slot_then shape es key other to)

-- the move of this key's entry away from a slot of this way: the key that is planned is clear but for it, it has a usable slot in its other
-- way, and with it there the planned key has one
abbrev pub move_of : Shape → List Entry → KeyView → KeyView → ℕ → Place → Option Plan
move_of shape es key other way from = move_to shape es key other from (target shape es key other (other_way way))

-- the move of an entry, if there is one, from a slot of this way
abbrev pub move_at : Shape → List Entry → KeyView → ℕ → Place → Option Entry → Option Plan
move_at shape es key way from None = None
move_at shape es key way from (Some e) = move_of shape es key e.key way from

-- the move of the entry in this slot
abbrev pub move_from : Shape → List Entry → KeyView → Place → Option Plan
move_from shape es key (Slot way bucket cell) = move_at shape es key way (Slot way bucket cell) (entry_at (Slot way bucket cell) es)
move_from shape es key (Row row) = None

-- of the first of these slots from which there is one
abbrev pub first_move : Shape → List Entry → KeyView → List Place → Option Plan
first_move shape es key [] = None
first_move shape es key (slot ∷ slots) = option_or (move_from shape es key slot) (first_move shape es key slots)

-- the move from the first of the key's slots from which there is one
abbrev pub move_plan : Shape → List Entry → KeyView → Option Plan
move_plan shape es key = first_move shape es key (key_slots shape key)

-- ---- a row

-- the first row of the key's group that nobody holds
abbrev pub row_plan : Shape → List Entry → KeyView → Option Plan
row_plan shape es key = option_map plan.FullKey (find (λ row. is_free es (Row row)) (key_rows shape key))

-- ---- the plan

-- a slot; where there is none a move; where there is none a row; else there is no room
unfoldable pub first_plan : Shape → List Entry → KeyView → Plan
first_plan shape es key = unwrap_or (option_or (slot_plan shape es key) (option_or (move_plan shape es key) (row_plan shape es key))) plan.NoRoom

-- the key has no Live place
abbrev pub IsUnplaced : KeyView → List Entry → Type 0
IsUnplaced key es = IfSome (entry_for key es) (λ e. e.place ≡ None)

-- ---- what a planned slot keeps

-- each registered key outside the full-key table is clear
abbrev pub AllClear : Shape → List Entry → Type 0
AllClear shape es = (i : ℕ) (e : Entry) → slice_get es i ≡ Some e → is_outside e ≡ true → is_clear shape es e.key ≡ true

-- each but this key is
abbrev pub AllClearBut : KeyView → Shape → List Entry → Type 0
AllClearBut key shape es = (i : ℕ) (e : Entry) → slice_get es i ≡ Some e → is_of key e ≡ false → is_outside e ≡ true → is_clear shape es e.key ≡ true

-- ---- what a plan is made of

-- the key and the places are the same
pub record KeepsPlaces (e f : Entry) : Type 0 where
  pub key : f.key ≡ e.key
  pub place : f.place ≡ e.place
  pub also : f.also ≡ e.also

-- ---- what a plan gives

-- nobody is about to leave a place
abbrev pub NobodyLeaves : List Entry → Type 0
NobodyLeaves [] = Unit {0}
NobodyLeaves (e ∷ es) = (e.also ≡ None) × NobodyLeaves es

-- a planned slot is one of the key's, usable and held by nobody, and the key is clear
pub record GivesSlot (shape : Shape) (es : List Entry) (key : KeyView) (place : Place) : Type 0 where
  pub slot : is_slot place ≡ true
  pub own : is_place_of shape key place ≡ true
  pub free : holder_of place es ≡ None
  pub usable : is_usable shape es key place ≡ true
  pub clear : is_clear shape es key ≡ true

-- a planned row is one of the key's group, and held by nobody
pub record GivesRow (shape : Shape) (es : List Entry) (key : KeyView) (row : ℕ) : Type 0 where
  pub own : is_place_of shape key (Row row) ≡ true
  pub free : holder_of (Row row) es ≡ None

-- a planned move is from a slot of the key to a slot of the other key, usable for it and held by nobody, and for a slot of the key; the key is
-- clear but for the other
pub record GivesMove (shape : Shape) (es : List Entry) (key other : KeyView) (from to last : Place) : Type 0 where
  pub from_slot : is_slot from ≡ true
  pub from_own : is_place_of shape key from ≡ true
  pub to_slot : is_slot to ≡ true
  pub to_own : is_place_of shape other to ≡ true
  pub to_free : holder_of to es ≡ None
  pub to_usable : is_usable shape (with_key key es) other to ≡ true
  pub last_slot : is_slot last ≡ true
  pub last_own : is_place_of shape key last ≡ true
  pub clear : is_clear_but shape es key other ≡ true
