-- The openings of the connections that are open, by their packed keys.
use Rattle.std.specs.Prelude.{◌≡◌, List}
use Rattle.std.specs.BTreeMap.{get}
use Rattle.std.specs.Ordering.{nat_cmp}
use Rattle.sr_base.specs.Key.{KeyView, IsKey, packed}
use Rattle.sr_law.specs.declared.line.Line.{Line}
use Rattle.sr_law.specs.Opening.{opening}
use Rattle.sr_audit.specs.declared.connections.Connections.{Connections}

-- the index is that of these lines
abbrev pub TellsConnections : Connections → List Line → Type 0
TellsConnections index before = (c : KeyView) → IsKey c → get nat_cmp index.map (packed c) ≡ opening before c
