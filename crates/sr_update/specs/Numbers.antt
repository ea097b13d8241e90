-- The state of each version number of each virtual address: a row for each virtual address, of a state for each number.
use Rattle.std.specs.Prelude.{ℕ, ◌+◌, ◌-◌, Bool, true, false, ◌==◌, ◌&&◌, Option, Some, None, if◌then◌else◌}
use Rattle.std.specs.Prelude.{List, [], ◌∷◌, replicate, slice_get, slice_set, slice_index_or, count_by}
use Rattle.sr_base.specs.Layout.{LayoutView}
use Rattle.sr_shadow.specs.Book.{count_of}
use Rattle.sr_shadow.specs.declared.entry.Entry.{Entry}
use Rattle.sr_update.specs.declared.number_state.NumberState.{NumberState}
use Rattle.sr_update.specs.declared.number_state.NumberState.TheVariants.{Free, Current, Draining}

-- the states of the numbers of each virtual address, in order
abbrev pub NumberRows : Type 0
NumberRows = List (List NumberState)

abbrev pub is_free : NumberState → Bool
is_free Free = true
is_free Current = false
is_free Draining = false

abbrev pub is_current : NumberState → Bool
is_current Free = false
is_current Current = true
is_current Draining = false

abbrev pub is_draining : NumberState → Bool
is_draining Free = false
is_draining Current = false
is_draining Draining = true

-- number 0 is Current, the others are Free
abbrev pub opening_row : ℕ → List NumberState
opening_row versions = Current ∷ replicate (versions - 1) Free

-- a row like this for each virtual address
abbrev pub opening_rows : LayoutView → NumberRows
opening_rows l = replicate l.vips (opening_row l.shape.versions)

-- the states of a virtual address's numbers
abbrev pub row_of : ℕ → NumberRows → List NumberState
row_of vip rows = slice_index_or rows vip []

-- the state of a number, where there is such a virtual address and number
abbrev pub state_of : ℕ → ℕ → NumberRows → Option NumberState
state_of vip number rows = slice_get (row_of vip rows) number

-- a number has another state
abbrev pub with_state : ℕ → ℕ → NumberState → NumberRows → NumberRows
with_state vip number state rows = slice_set rows vip (slice_set (row_of vip rows) number state)

-- the first number that passes a test with its state, of a row that begins with this number
abbrev pub first_number : (ℕ → NumberState → Bool) → ℕ → List NumberState → Option ℕ
first_number test number [] = None
first_number test number (state ∷ row) = if test number state then Some number else first_number test (number + 1) row

-- the least Free number of a virtual address
abbrev pub least_free : ℕ → NumberRows → Option ℕ
least_free vip rows = first_number (λ number. is_free) 0 (row_of vip rows)

-- the least Current number of a virtual address
abbrev pub current_of : ℕ → NumberRows → Option ℕ
current_of vip rows = first_number (λ number. is_current) 0 (row_of vip rows)

-- how many numbers of a virtual address are Current
abbrev pub current_count : ℕ → NumberRows → ℕ
current_count vip rows = count_by is_current (row_of vip rows)

-- the number is Draining, and no registered key has it
abbrev pub is_drained : ℕ → List Entry → ℕ → NumberState → Bool
is_drained vip entries number state = is_draining state && (count_of vip number entries == 0)

-- a number with its virtual address, or what comes after it
abbrev pub or_after : ℕ → Option ℕ → Option (ℕ × ℕ) → Option (ℕ × ℕ)
or_after vip None after = after
or_after vip (Some number) after = Some (vip, number)

-- the first such number of the virtual addresses from this one on
abbrev pub drained_from : ℕ → NumberRows → List Entry → Option (ℕ × ℕ)
drained_from vip [] entries = None
drained_from vip (row ∷ rows) entries =
    or_after vip (first_number (is_drained vip entries) 0 row) (drained_from (vip + 1) rows entries)

-- the first Draining number, by virtual address and number, that no registered key has
abbrev pub first_drained : NumberRows → List Entry → Option (ℕ × ℕ)
first_drained rows entries = drained_from 0 rows entries
