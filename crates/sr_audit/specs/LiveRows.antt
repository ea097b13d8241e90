-- The rows of the table of full keys at which an entry is live.
use Rattle.std.specs.Prelude.{◌≡◌, ℕ, List}
use Rattle.std.specs.BTreeSet.{contains}
use Rattle.std.specs.Ordering.{nat_cmp}
use Rattle.sr_base.specs.declared.place.Place.TheVariants.{Row}
use Rattle.sr_law.specs.declared.line.Line.{Line}
use Rattle.sr_law.specs.Rows.{is_live}
use Rattle.sr_audit.specs.declared.live_rows.LiveRows.{LiveRows}

-- the index is that of these lines
abbrev pub TellsRows : LiveRows → List Line → Type 0
TellsRows index before = (row : ℕ) → contains nat_cmp index.set row ≡ is_live before (Row row)
