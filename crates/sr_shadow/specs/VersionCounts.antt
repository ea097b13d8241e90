-- How many registered keys have a virtual address and a version, as a table of 16 rows of 64 numbers.
use Rattle.std.specs.Prelude.{◌≡◌, ℕ, ◌+◌, ◌*◌, ◌<◌, ◌≤◌, List, ◌∷◌, ◌++◌, length, slice_index_or}
use Rattle.sr_shadow.specs.Book.{count_of, most_taken}
use Rattle.sr_shadow.specs.declared.entry.Entry.{Entry}

-- where a virtual address and a version have their number
abbrev pub cell_of : ℕ → ℕ → ℕ
cell_of vip version = vip * 64 + version

-- the table is that of the entries
abbrev pub Counted : List ℕ → List Entry → Type 0
Counted table es = (vip version : ℕ) → vip < 16 → version < 64 → slice_index_or table (cell_of vip version) 0 ≡ count_of vip version es

-- there are few enough entries for 64 bits
abbrev pub FewCounted : List ℕ → Type 0
FewCounted table = (es : List Entry) × Counted table es × (length es ≤ most_taken)

-- the entry is one of those counted
abbrev pub HasCounted : List ℕ → Entry → Type 0
HasCounted table e = (front : List Entry) × (back : List Entry) × Counted table (front ++ e ∷ back)
