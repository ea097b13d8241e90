-- The places of a key that are still to be looked at: twelve, four of a group's rows, four of a bucket of way 1, four of one of way 2.
use Rattle.std.specs.Prelude.{ℕ, List, drop}
use Rattle.sr_base.specs.Key.{KeyView}
use Rattle.sr_base.specs.Layout.{LayoutView}
use Rattle.sr_base.specs.declared.place.Place.{Place}
use Rattle.sr_machine.specs.Stages.{key_places}

-- from this position on
abbrev pub places_from : LayoutView → KeyView → ℕ → List Place
places_from l key i = drop i (key_places l key)
