-- Order, in part: places are taken and freed.
use Rattle.std.specs.Prelude.{Bool, true, false, not, ◌&&◌, if◌then◌else◌, List, [], ◌∷◌, Option, Some, None, option_map, is_none}
use Rattle.sr_base.specs.Key.{KeyView, same_key}
use Rattle.sr_base.specs.Place.{same_place}
use Rattle.sr_base.specs.declared.place.Place.{Place}
use Rattle.sr_law.specs.declared.line.Line.{Line}
use Rattle.sr_law.specs.declared.line.Line.TheVariants.{Reserved, Placed, Cleared}
use Rattle.sr_law.specs.declared.taking.Taking.{Taking}

-- it was placed since it was taken
abbrev pub now_placed : Taking → Taking
now_placed taking = record { key = taking.key; placed = true }

-- who has a place after one line more
abbrev pub taken_after : Line → Place → Option Taking → Option Taking
taken_after (Reserved out key at) place older = if same_place at place then Some (record { key = key; placed = false }) else older
taken_after (Placed out key at) place older = if same_place at place then option_map now_placed older else older
taken_after (Cleared out key at) place older = if same_place at place then None else older
taken_after line place older = older

-- who has a place: it is taken from a Reserved line on until the next Cleared line of it
abbrev pub taken : List Line → Place → Option Taking
taken [] place = None
taken (line ∷ before) place = taken_after line place (taken before place)

-- the place is taken by this key, and wasn't placed since
abbrev pub may_place : KeyView → Option Taking → Bool
may_place key None = false
may_place key (Some taking) = same_key taking.key key && not taking.placed

-- the place is taken by this key
abbrev pub may_clear : KeyView → Option Taking → Bool
may_clear key None = false
may_clear key (Some taking) = same_key taking.key key

-- a place is reserved where nobody has it, and placed, once, and cleared by the key that has it
unfoldable pub keeps_places : List Line → Line → Bool
keeps_places before (Reserved out key place) = is_none (taken before place)
keeps_places before (Placed out key place) = may_place key (taken before place)
keeps_places before (Cleared out key place) = may_clear key (taken before place)
keeps_places before line = true
