-- The controller's book: the entries of the registered keys in the order of taking. A key is registered where an entry is its.
use Rattle.std.specs.Prelude.{◌≡◌, ℕ, ◌+◌, ◌^◌, ◌≤◌, Bool, true, false, not, ◌&&◌, nat_le, List, [], ◌∷◌, ◌++◌, map, filter, find, count_by, sum_by, is_some, Option, Some, None, option_map, if◌then◌else◌}
use Rattle.std.specs.List.{list_any}
use Rattle.sr_base.specs.Key.{KeyView, IsKey}
use Rattle.sr_base.specs.declared.place.Place.{Place}
use Rattle.sr_base.specs.declared.shape.Shape.{Shape}
use Rattle.sr_hash.specs.Clash.{clashes}
use Rattle.sr_shadow.specs.Entry.{is_of, is_pending, is_placed, is_outside, holds, times_held, has_version, stands_in, fresh, closed, settled, left_other, swept, may_retire}
use Rattle.sr_shadow.specs.declared.book.Book.{Book}
use Rattle.sr_shadow.specs.declared.entry.Entry.{Entry}

-- the key's entry
abbrev pub entry_for : KeyView → List Entry → Option Entry
entry_for key entries = find (is_of key) entries

-- some entry is the key's
abbrev pub is_registered : KeyView → List Entry → Bool
is_registered key entries = list_any (is_of key) entries

-- the first entry without a Live place, of those taken from this number on
abbrev pub pending_from : ℕ → List Entry → Option Entry
pending_from number entries = find (λ e. nat_le number e.taken && is_pending e) entries

-- the first entry with a Live place, of those taken from this number on
abbrev pub placed_from : ℕ → List Entry → Option Entry
placed_from number entries = find (λ e. nat_le number e.taken && is_placed e) entries

-- the first entry that may be retired, where a connection has so many lives
abbrev pub first_retirable : ℕ → List Entry → Option Entry
first_retirable lives entries = find (may_retire lives) entries

-- the entry that has the place, as the Live one or as the one that it is about to leave
abbrev pub holder_entry : Place → List Entry → Option Entry
holder_entry place entries = find (holds place) entries

-- its key
abbrev pub holder_of : Place → List Entry → Option KeyView
holder_of place entries = option_map (λ e. e.key) (holder_entry place entries)

-- how many registered keys have this virtual address and version
abbrev pub count_of : ℕ → ℕ → List Entry → ℕ
count_of vip version entries = count_by (has_version vip version) entries

-- an entry of another key, not placed in a row of the full-key table, clashes with the key in this way
abbrev pub is_rival : Shape → ℕ → KeyView → Entry → Bool
is_rival shape way key e = is_outside e && (not (is_of key e) && clashes shape way key e.key)

-- some other registered key outside the full-key table clashes with the key in this way
abbrev pub is_clashing : Shape → ℕ → KeyView → List Entry → Bool
is_clashing shape way key entries = list_any (is_rival shape way key) entries

-- the entry stands in a slot of this way, in which its key clashes with this one: there packets of the one are taken for the other's
abbrev pub is_stander : Shape → ℕ → KeyView → Entry → Bool
is_stander shape way key e = stands_in way e && clashes shape way key e.key

-- how many do, the key's own entry counted
abbrev pub standing_of : Shape → ℕ → KeyView → List Entry → ℕ
standing_of shape way key entries = count_by (is_stander shape way key) entries

-- the entries, with the key's changed
abbrev pub with_changed : (Entry → Entry) → KeyView → List Entry → List Entry
with_changed change key entries = map (λ e. if is_of key e then change e else e) entries

-- the entries without the key's
abbrev pub without_key : KeyView → List Entry → List Entry
without_key key entries = filter (λ e. not (is_of key e)) entries

-- the entries once the key is taken with a version, under the number that the next new entry gets: a registered key changes nothing
abbrev pub entries_with : KeyView → ℕ → ℕ → List Entry → List Entry
entries_with key version taken entries = if is_registered key entries then entries else (entries ++ fresh key version taken ∷ [])

-- how many were ever taken then
abbrev pub taken_with : KeyView → ℕ → List Entry → ℕ
taken_with key taken entries = if is_registered key entries then taken else (taken + 1)

-- the empty book
abbrev pub empty_book : Book
empty_book = record { entries = []; taken = 0 }

-- the key is registered, as the last entry
abbrev pub with_new : KeyView → ℕ → Book → Book
with_new key version book = record { entries = book.entries ++ fresh key version book.taken ∷ []; taken = book.taken + 1 }

-- the key is taken, and registered so if it wasn't
abbrev pub with_taken : KeyView → ℕ → Book → Book
with_taken key version book = record {
  entries = entries_with key version book.taken book.entries;
  taken = taken_with key book.taken book.entries;
}

-- a Close was taken for the key
abbrev pub with_closed : KeyView → Book → Book
with_closed key book = record book { entries = with_changed closed key book.entries }

-- the key is Live at the place
abbrev pub with_settled : KeyView → Place → Book → Book
with_settled key place book = record book { entries = with_changed (settled place) key book.entries }

-- the key holds its Live place alone
abbrev pub with_left : KeyView → Book → Book
with_left key book = record book { entries = with_changed left_other key book.entries }

-- a sweep went by the key's place, and found a hit there or found none
abbrev pub with_swept : KeyView → Bool → Book → Book
with_swept key hit book = record book { entries = with_changed (swept hit) key book.entries }

-- the key's entry is out
abbrev pub with_retired : KeyView → Book → Book
with_retired key book = record book { entries = without_key key book.entries }

-- what settling takes for granted: the key is registered and holds no place that it is about to leave
abbrev pub CanSettle : KeyView → List Entry → Type 0
CanSettle key entries = (e : Entry) × (entry_for key entries ≡ Some e) × (e.also ≡ None)

-- a key that is about to leave a place
abbrev pub CanLeave : KeyView → List Entry → Type 0
CanLeave key entries = (e : Entry) × (entry_for key entries ≡ Some e) × (is_some e.also ≡ true)

-- a key with a Live place
abbrev pub CanSweep : KeyView → List Entry → Type 0
CanSweep key entries = (e : Entry) × (entry_for key entries ≡ Some e) × (is_placed e ≡ true)

-- no two entries are of one key
abbrev pub DistinctKeys : List Entry → Type 0
DistinctKeys [] = Unit {0}
DistinctKeys (e ∷ entries) = (is_registered e.key entries ≡ false) × DistinctKeys entries

-- only a key with a Live place is about to leave one
abbrev pub PlacedLeave : List Entry → Type 0
PlacedLeave [] = Unit {0}
PlacedLeave (e ∷ entries) = (e.place ≡ None → e.also ≡ None) × PlacedLeave entries

-- no place is held twice, by two entries or by one
abbrev pub HeldOnce : List Entry → Type 0
HeldOnce entries = (place : Place) → sum_by (times_held place) entries ≤ 1

-- the keys are in range
abbrev pub AreKeys : List Entry → Type 0
AreKeys [] = Unit {0}
AreKeys (e ∷ entries) = IsKey e.key × AreKeys entries

-- the numbers rise from a lowest one, and are below a highest
abbrev pub TakenFrom : ℕ → List Entry → ℕ → Type 0
TakenFrom low [] high = low ≤ high
TakenFrom low (e ∷ entries) high = (low ≤ e.taken) × TakenFrom (e.taken + 1) entries high

-- a key that is registered is about to leave no place
abbrev pub IsAlone : KeyView → List Entry → Type 0
IsAlone key entries = (e : Entry) → entry_for key entries ≡ Some e → e.also ≡ None

-- how many entries a book takes
abbrev pub most_taken : ℕ
most_taken = 2 ^ 58

-- what holds of every book
pub record IsBook (entries : List Entry) (taken : ℕ) : Type 0 where
  pub distinct : DistinctKeys entries
  pub once : HeldOnce entries
  pub leave : PlacedLeave entries
  pub keys : AreKeys entries
  pub rising : TakenFrom 0 entries taken
  pub most : taken ≤ most_taken
