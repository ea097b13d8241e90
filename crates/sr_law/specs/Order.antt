-- Order: ticks rise, updates go in whole groups, places are taken and freed, and each number is one of the setup.
use Rattle.std.specs.Prelude.{ℕ, Bool, true, false, not, ◌&&◌, nat_le, List}
use Rattle.std.specs.List.{list_any}
use Rattle.sr_law.specs.declared.line.Line.{Line}
use Rattle.sr_law.specs.declared.line.Line.TheVariants.{Refused}
use Rattle.sr_law.specs.Groups.{keeps_groups}
use Rattle.sr_law.specs.Ranges.{in_range}
use Rattle.sr_law.specs.Rising.{rises}
use Rattle.sr_law.specs.Setup.{SetupView}
use Rattle.sr_law.specs.Taken.{keeps_places}

-- a line that refused this change, or a later one of the script
abbrev pub refused_past : ℕ → Line → Bool
refused_past change (Refused out refused) = nat_le change refused
refused_past change line = false

-- changes are refused in the script's order
abbrev pub refuses_next : List Line → Line → Bool
refuses_next before (Refused out change) = not (list_any (refused_past change) before)
refuses_next before line = true

-- a line stands in order
unfoldable pub meets_order : SetupView → List Line → Line → Bool
meets_order setup before line =
    keeps_groups setup before line && rises before line && in_range setup line && keeps_places before line && refuses_next before line
