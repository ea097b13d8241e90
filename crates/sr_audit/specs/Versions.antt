-- What each version of each virtual address was last given, in a table.
use Rattle.std.specs.Prelude.{◌≡◌, ℕ, ◌+◌, ◌*◌, ◌<◌, List, Option, None, slice_index_or}
use Rattle.sr_law.specs.declared.giving.Giving.{Giving}
use Rattle.sr_law.specs.declared.line.Line.{Line}
use Rattle.sr_law.specs.Given.{last_version}

-- where a version of a virtual address stands in the table
abbrev pub cell_of : ℕ → ℕ → ℕ
cell_of vip version = vip * 64 + version

-- the table is that of these lines
abbrev pub TellsVersions : List (Option Giving) → List Line → Type 0
TellsVersions cells before =
    (vip version : ℕ) → vip < 16 → version < 64 → slice_index_or cells (cell_of vip version) None ≡ last_version before vip version
