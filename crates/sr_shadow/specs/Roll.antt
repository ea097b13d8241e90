-- The entries in the order of taking, as slots: each has the number of its entry, and the entry, or nothing once that is out.
use Rattle.std.specs.Prelude.{◌≡◌, ℕ, ◌+◌, ◌≤◌, min, Bool, false, List, [], ◌∷◌, ◌++◌, option_to_list, map, filter, filter_map, take, is_some, Option, None, Some, slice_get, option_and_then}
use Rattle.sr_shadow.specs.Entry.{is_pending, is_placed, may_retire}
use Rattle.sr_shadow.specs.declared.entry.Entry.{Entry}
use Rattle.sr_shadow.specs.declared.slot_marks.SlotMarks.{SlotMarks}

-- the entries that are still in
abbrev pub entries_in : List (ℕ × Option Entry) → List Entry
entries_in slots = filter_map (λ s. s.1) slots

-- the entry at a position
abbrev pub entry_at : ℕ → List (ℕ × Option Entry) → Option Entry
entry_at at slots = option_and_then (λ s. s.1) (slice_get slots at)

-- the entry at a position that was found, or none
abbrev pub entry_found : Option ℕ → List (ℕ × Option Entry) → Option Entry
entry_found None slots = None
entry_found (Some at) slots = entry_at at slots

-- the slot's entry is in, and passes a test
abbrev pub passes : (Entry → Bool) → Option Entry → Bool
passes test None = false
passes test (Some e) = test e

-- of the first so many slots those with an entry
abbrev pub kept : ℕ → List (ℕ × Option Entry) → List (ℕ × Option Entry)
kept n slots = filter (λ s. is_some s.1) (take n slots)

-- an entry has its slot's number
abbrev pub HasNumber : ℕ → Option Entry → Type 0
HasNumber number None = Unit {0}
HasNumber number (Some e) = e.taken ≡ number

-- the slots' numbers rise from a lowest one, and are below a highest
abbrev pub Rising : ℕ → List (ℕ × Option Entry) → ℕ → Type 0
Rising low [] high = low ≤ high
Rising low (s ∷ slots) high = (low ≤ s.0) × HasNumber s.0 s.1 × Rising (s.0 + 1) slots high

-- marks of the slots whose entries are in, in without a Live place, in with one, in and may be retired after so many lives
pub record AreMarks (lives : ℕ) (ins waiting live over : List Bool) (slots : List (ℕ × Option Entry)) : Type 0 where
  pub filled : ins ≡ map (λ s. is_some s.1) slots
  pub pending : waiting ≡ map (λ s. passes is_pending s.1) slots
  pub placed : live ≡ map (λ s. passes is_placed s.1) slots
  pub retirable : over ≡ map (λ s. passes (may_retire lives) s.1) slots

-- these marks are those of the slots
abbrev pub Marked : SlotMarks → List (ℕ × Option Entry) → Type 0
Marked s slots = AreMarks s.lives s.filled.marks s.pending.marks s.placed.marks s.retirable.marks slots

-- it takes one more slot without memory
abbrev pub marks_room : SlotMarks → ℕ
marks_room s = min s.filled.room (min s.pending.room (min s.placed.room s.retirable.room))

-- the roll: the entries in, how many were ever taken, how many more go in without memory, how many lives a connection has
pub record RollView : Type 0 where
  pub entries : List Entry
  pub taken : ℕ
  pub room : ℕ
  pub lives : ℕ

-- what holds of a roll's parts
pub record IsRoll (slots : List (ℕ × Option Entry)) (marks : SlotMarks) (taken : ℕ) : Type 0 where
  pub rising : Rising 0 slots taken
  pub marked : Marked marks slots

-- an entry of this number is in
abbrev pub HasEntry : List Entry → ℕ → Type 0
HasEntry es number = (front : List Entry) × (back : List Entry) × (e : Entry) × (es ≡ front ++ e ∷ back) × (e.taken ≡ number)

-- of an entry's list, the same with something else in its place
abbrev pub Replaces : List Entry → List Entry → ℕ → Option Entry → Type 0
Replaces old new number other =
    (front back : List Entry) (e : Entry) → old ≡ front ++ e ∷ back → e.taken ≡ number → new ≡ front ++ (option_to_list other ++ back)
