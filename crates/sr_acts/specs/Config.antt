-- What a machine is made for fits together.
use Rattle.std.specs.Prelude.{◌≡◌, ℕ, List}
use Rattle.sr_base.specs.Fitting.{FitsLayout}
use Rattle.sr_law.specs.Pools.{pools_from}
use Rattle.sr_machine.specs.Config.{Config}

-- the first pools and the changes fit the layout, and the pools by number are theirs
abbrev pub IsFitting : Config → Type 0
IsFitting k = (first : List (List ℕ)) × FitsLayout k.layout first k.changes × (k.pools ≡ pools_from 0 first k.changes)
