-- The sweeps, by their numbers.
use Rattle.std.specs.Prelude.{◌≡◌, ℕ, List}
use Rattle.std.specs.BTreeMap.{get}
use Rattle.std.specs.Ordering.{nat_cmp}
use Rattle.sr_law.specs.declared.line.Line.{Line}
use Rattle.sr_law.specs.Retire.{numbered_sweep}
use Rattle.sr_audit.specs.declared.sweeps.Sweeps.{Sweeps}

-- the index is that of these lines
abbrev pub TellsSweeps : Sweeps → List Line → Type 0
TellsSweeps index before = (number : ℕ) → get nat_cmp index.map number ≡ numbered_sweep before number
