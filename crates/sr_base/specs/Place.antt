-- When two places are one.
use Rattle.std.specs.Prelude.{Bool, false, ◌&&◌, ◌==◌}
use Rattle.sr_base.specs.declared.place.Place.{Place}
use Rattle.sr_base.specs.declared.place.Place.TheVariants.{Slot, Row}

-- two places are one
abbrev pub same_place : Place → Place → Bool
same_place (Slot way bucket cell) (Slot other_way other_bucket other_cell) =
    (way == other_way) && ((bucket == other_bucket) && (cell == other_cell))
same_place (Slot way bucket cell) (Row row) = false
same_place (Row row) (Slot way bucket cell) = false
same_place (Row row) (Row other_row) = row == other_row
