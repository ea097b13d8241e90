-- The machine that a script is for.
use Rattle.sr_law.specs.Pools.{pools_from}
use Rattle.sr_machine.specs.Config.{Config}
use Rattle.sr_script.specs.Fitting.{layout_of}
use Rattle.sr_script.specs.Spelled.{Spelled}

-- its layout, its pools by number, and its changes
abbrev pub config_of : Spelled → Config
config_of s = record { layout = layout_of s; pools = pools_from 0 s.first s.changes; changes = s.changes }
