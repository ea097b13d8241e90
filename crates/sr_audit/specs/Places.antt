-- Who has each place of the tables.
use Rattle.std.specs.Prelude.{◌≡◌, ℕ, List, Option, if◌then◌else◌}
use Rattle.std.specs.BTreeMap.{get}
use Rattle.std.specs.declared.cmp.Ordering.{Ordering}
use Rattle.std.specs.Ordering.{nat_cmp, ordering_then}
use Rattle.sr_base.specs.Place.{same_place}
use Rattle.sr_base.specs.declared.place.Place.{Place}
use Rattle.sr_base.specs.declared.place.Place.TheVariants.{Slot, Row}
use Rattle.sr_law.specs.declared.line.Line.{Line}
use Rattle.sr_law.specs.declared.taking.Taking.{Taking}
use Rattle.sr_law.specs.Taken.{taken}
use Rattle.sr_audit.specs.declared.places.Places.{Places}

-- the order of the slots: by way, bucket and cell
abbrev pub slot_cmp : ℕ × ℕ × ℕ → ℕ × ℕ × ℕ → Ordering
slot_cmp x y = ordering_then (ordering_then (nat_cmp x.0 y.0) (nat_cmp x.1 y.1)) (nat_cmp x.2 y.2)

-- who has a place
abbrev pub holder : Places → Place → Option Taking
holder index (Slot way bucket cell) = get slot_cmp index.slots (way, bucket, cell)
holder index (Row row) = get nat_cmp index.rows row

-- this place has this holder now, and the others theirs
abbrev pub SetsHolder : Places → Places → Place → Option Taking → Type 0
SetsHolder old new place taking = (other : Place) → holder new other ≡ (if same_place place other then taking else holder old other)

-- the index is that of these lines
abbrev pub TellsPlaces : Places → List Line → Type 0
TellsPlaces index before = (place : Place) → holder index place ≡ taken before place
