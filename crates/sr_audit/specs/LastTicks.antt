-- When connections were last placed and retired, by their packed keys.
use Rattle.std.specs.Prelude.{◌≡◌, List, unwrap_or}
use Rattle.std.specs.BTreeMap.{get}
use Rattle.std.specs.Ordering.{nat_cmp}
use Rattle.sr_base.specs.Key.{KeyView, IsKey, packed}
use Rattle.sr_law.specs.declared.line.Line.{Line}
use Rattle.sr_law.specs.Retire.{last_placed, last_retired}
use Rattle.sr_audit.specs.declared.last_placed.LastPlaced.{LastPlaced}
use Rattle.sr_audit.specs.declared.last_retired.LastRetired.{LastRetired}

-- the index of placings is that of these lines
abbrev pub TellsPlaced : LastPlaced → List Line → Type 0
TellsPlaced index before = (c : KeyView) → IsKey c → get nat_cmp index.map (packed c) ≡ last_placed before c

-- the index of retirements is that of these lines
abbrev pub TellsRetired : LastRetired → List Line → Type 0
TellsRetired index before =
    (c : KeyView) → IsKey c → unwrap_or (get nat_cmp index.map (packed c)) 0 ≡ last_retired before c
