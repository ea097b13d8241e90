-- What is left of a machine's run by the picks of a seed.
use Rattle.std.specs.Prelude.{◌≡◌, ℕ, List, Option}
use Rattle.sr_base.specs.Key.{KeyView}
use Rattle.sr_law.specs.declared.line.Line.{Line}
use Rattle.sr_machine.specs.Config.{Config}
use Rattle.sr_machine.specs.Core.{Core, lines_of}
use Rattle.sr_picks.specs.Run.{RunsByPicks}
use Rattle.sr_rounds.specs.declared.timed.Timed.{Timed}
use Rattle.sr_scripted.specs.Played.{settled_for}

-- The run leads from the beginning of the machine to a state with these lines, by their ticks; and its turns end with this key waited for, if with any.
pub record RunsTo (k : Config) (seed : ℕ) (packets : List Timed) (lines : List Line) (awaited : Option KeyView) : Type 0 where
  pub state : Core
  pub runs : RunsByPicks k seed packets (settled_for awaited) state
  pub all : lines ≡ lines_of state
