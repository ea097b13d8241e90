-- The last sweep.
use Rattle.std.specs.Prelude.{◌≡◌, List}
use Rattle.sr_law.specs.declared.line.Line.{Line}
use Rattle.sr_law.specs.Retire.{last_sweep}
use Rattle.sr_audit.specs.declared.last_sweep.LastSweep.{LastSweep}

-- the index is that of these lines
abbrev pub TellsSweep : LastSweep → List Line → Type 0
TellsSweep index before = index.sweep ≡ last_sweep before
