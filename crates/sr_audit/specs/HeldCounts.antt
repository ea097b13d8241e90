-- How many openers each pipe held.
use Rattle.std.specs.Prelude.{◌≡◌, ℕ, List, unwrap_or}
use Rattle.std.specs.BTreeMap.{get}
use Rattle.std.specs.Ordering.{nat_cmp}
use Rattle.sr_law.specs.declared.line.Line.{Line}
use Rattle.sr_law.specs.Full.{held_count}
use Rattle.sr_audit.specs.declared.held_counts.HeldCounts.{HeldCounts}

-- the index is that of these lines
abbrev pub TellsHeld : HeldCounts → List Line → Type 0
TellsHeld index before = (pipe : ℕ) → unwrap_or (get nat_cmp index.map pipe) 0 ≡ held_count pipe before
