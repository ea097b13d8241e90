-- Cause, in part: when there is no place for a key.
use Rattle.std.specs.Prelude.{◌+◌, ◌*◌, Bool, false, not, ◌&&◌, ◌||◌, List, [], ◌∷◌}
use Rattle.sr_base.specs.Key.{KeyView}
use Rattle.sr_base.specs.Place.{same_place}
use Rattle.sr_base.specs.declared.shape.Shape.{Shape}
use Rattle.sr_base.specs.declared.place.Place.{Place}
use Rattle.sr_base.specs.declared.place.Place.TheVariants.{Row}
use Rattle.sr_law.specs.declared.line.Line.{Line}
use Rattle.sr_law.specs.declared.line.Line.TheVariants.{Placed, Cleared}
use Rattle.sr_hash.specs.Uses.{group_of}

-- whether an entry is live at a place after one line more
abbrev pub live_after : Line → Place → Bool → Bool
live_after (Placed out key at) place older = same_place at place || older
live_after (Cleared out key at) place older = not (same_place at place) && older
live_after line place older = older

-- an entry is live at a place: it was placed there and no later line cleared it
abbrev pub is_live : List Line → Place → Bool
is_live [] place = false
is_live (line ∷ before) place = live_after line place (is_live before place)

-- an entry is live in each row of the key's group
unfoldable pub is_group_full : Shape → List Line → KeyView → Bool
is_group_full shape before key =
    let first = 4 * group_of key shape.full_rows in
    is_live before (Row first) && is_live before (Row (first + 1)) && is_live before (Row (first + 2)) && is_live before (Row (first + 3))
