-- When an opener may have been held by a clash: an entry that it matches stands, or was cleared lately.
use Rattle.std.specs.Prelude.{◌≡◌, ℕ, ◌+◌, ◌*◌, Bool, true, false, ◌||◌, nat_le, List, [], ◌∷◌, Option, Some, None}
use Rattle.std.specs.List.{list_any, take_while}
use Rattle.sr_base.specs.Key.{KeyView}
use Rattle.sr_base.specs.declared.place.Place.{Place}
use Rattle.sr_base.specs.declared.place.Place.TheVariants.{Slot, Row}
use Rattle.sr_base.specs.declared.shape.Shape.{Shape}
use Rattle.sr_hash.specs.Uses.{bucket_of, group_of}
use Rattle.sr_law.specs.declared.line.Line.{Line}
use Rattle.sr_law.specs.declared.line.Line.TheVariants.{Cleared}
use Rattle.sr_law.specs.declared.taking.Taking.{Taking}
use Rattle.sr_law.specs.Held.{matches_entry}
use Rattle.sr_law.specs.Ranges.{names_own_place}
use Rattle.sr_law.specs.Taken.{keeps_places}
use Rattle.sr_law.specs.Ticks.{out_of}

-- the cells of a key's bucket of a way, and the rows of its group
abbrev pub cells_of : Shape → KeyView → ℕ → List Place
cells_of shape c way =
    let bucket = bucket_of way c shape.buckets in
    Slot way bucket 0 ∷ Slot way bucket 1 ∷ Slot way bucket 2 ∷ Slot way bucket 3 ∷ []

abbrev pub rows_of : Shape → KeyView → List Place
rows_of shape c =
    let first = 4 * group_of c shape.full_rows in
    Row first ∷ Row (first + 1) ∷ Row (first + 2) ∷ Row (first + 3) ∷ []

-- the key matches who has a place
abbrev pub matches_holder : Shape → KeyView → Place → Option Taking → Bool
matches_holder shape c place None = false
matches_holder shape c place (Some taking) = matches_entry shape c taking.key place

-- it matches who has one of these places
abbrev pub matches_among : Shape → (Place → Option Taking) → KeyView → List Place → Bool
matches_among shape holds c places = list_any (λ place. matches_holder shape c place (holds place)) places

-- it matches an entry of the tables
abbrev pub matches_now : Shape → (Place → Option Taking) → KeyView → Bool
matches_now shape holds c =
    matches_among shape holds c (cells_of shape c 1) || (matches_among shape holds c (cells_of shape c 2) || matches_among shape holds c (rows_of shape c))

-- the line clears an entry that it matches
abbrev pub clears_match : Shape → KeyView → Line → Bool
clears_match shape c (Cleared out key place) = matches_entry shape c key place
clears_match shape c line = false

-- the line was out at this tick or later
abbrev pub is_out_from : ℕ → Line → Bool
is_out_from start line = nat_le start (out_of line)

-- one of the newest lines, those that were out at this tick or later, clears an entry that it matches
unfoldable pub clears_lately : Shape → List Line → KeyView → ℕ → Bool
clears_lately shape before c start = list_any (clears_match shape c) (take_while (is_out_from start) before)

-- each of these lines names a place of its key, and takes and frees places as it may
abbrev pub KeepsPlaces : Shape → List Line → Type 0
KeepsPlaces shape [] = Unit {0}
KeepsPlaces shape (line ∷ before) = (keeps_places before line ≡ true) × (names_own_place shape line ≡ true) × KeepsPlaces shape before
