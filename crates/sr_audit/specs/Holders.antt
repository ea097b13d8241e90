-- The versions that open connections hold: who was opened with which.
use Rattle.std.specs.Prelude.{◌≡◌, ℕ, List, ◌∷◌}
use Rattle.std.specs.BTreeSet.{contains}
use Rattle.std.specs.declared.cmp.Ordering.{Ordering}
use Rattle.std.specs.Ordering.{nat_cmp, ordering_then}
use Rattle.sr_base.specs.Key.{KeyView}
use Rattle.sr_law.specs.declared.line.Line.{Line}
use Rattle.sr_law.specs.Number.{opened_with}
use Rattle.sr_law.specs.Opening.{opening}
use Rattle.sr_audit.specs.declared.connections.Connections.{Connections}
use Rattle.sr_audit.specs.declared.holders.Holders.{Holders}
use Rattle.sr_audit.specs.Connections.{TellsConnections}

-- the order of the index: by virtual address, version, client's address and port
abbrev pub holder_cmp : ℕ × ℕ × ℕ × ℕ → ℕ × ℕ × ℕ × ℕ → Ordering
holder_cmp x y =
    ordering_then (ordering_then (ordering_then (nat_cmp x.0 y.0) (nat_cmp x.1 y.1)) (nat_cmp x.2 y.2)) (nat_cmp x.3 y.3)

-- the index is that of these lines
abbrev pub TellsHolders : Holders → List Line → Type 0
TellsHolders index before =
    (c : KeyView) (version : ℕ) → contains holder_cmp index.set (c.vip, version, c.ip, c.port) ≡ opened_with version (opening before c)

-- the new index is that of one line more, where the old one and these connections are those of the lines before it
abbrev pub KeepsHolders : Connections → Holders → Holders → Line → Type 0
KeepsHolders connections old new line =
    (before : List Line) → TellsConnections connections before → TellsHolders old before → TellsHolders new (line ∷ before)
