-- The last line of an update, after the first lines of a list.
use Rattle.std.specs.Prelude.{◌≡◌, List}
use Rattle.sr_law.specs.declared.line.Line.{Line}
use Rattle.sr_law.specs.Groups.{after_gives, last_of_update}
use Rattle.sr_audit.specs.declared.last_update.LastUpdate.{LastUpdate}

-- the index is that of these lines
abbrev pub TellsUpdate : LastUpdate → List Line → Type 0
TellsUpdate index before = index.line ≡ last_of_update (after_gives index.vips before)
