-- What each virtual address was last given, by its number.
use Rattle.std.specs.Prelude.{◌≡◌, ℕ, List}
use Rattle.std.specs.BTreeMap.{get}
use Rattle.std.specs.Ordering.{nat_cmp}
use Rattle.sr_law.specs.declared.line.Line.{Line}
use Rattle.sr_law.specs.Given.{last_given}
use Rattle.sr_audit.specs.declared.last_givings.LastGivings.{LastGivings}

-- the index is that of these lines
abbrev pub TellsGivings : LastGivings → List Line → Type 0
TellsGivings index before = (vip : ℕ) → get nat_cmp index.map vip ≡ last_given before vip
