-- What a single step of a pipe answers.
use Rattle.std.specs.Prelude.{◌≡◌, ◌++◌, true, false, List, [], ◌∷◌}
use Rattle.sr_law.specs.declared.line.Line.{Line}
use Rattle.sr_machine.specs.Pipe.{is_idle}
use Rattle.sr_machine.specs.declared.pipe_view.PipeView.{PipeView}
use Rattle.sr_machine.specs.declared.stage.Stage.{Stage}
use Rattle.sr_machine.specs.declared.stage.Stage.TheVariants.{Leave}
use Rattle.sr_pipe.specs.declared.progress.Progress.{Progress}
use Rattle.sr_pipe.specs.declared.progress.Progress.TheVariants.{Running, Done}

-- it is the last line
abbrev pub IsLast : Line → List Line → Type 0
IsLast line lines = (before : List Line) × (lines ≡ before ++ line ∷ [])

-- a packet whose line was written, and has its note to clear, left a line
abbrev pub HasLine : Stage → List Line → Type 0
HasLine (Leave f) lines = (line : Line) × IsLast line lines
HasLine stage lines = Unit {0}

-- running exactly where the packet has a further step; done with its line
abbrev pub TellsProgress : Progress → PipeView → Type 0
TellsProgress Running w = is_idle w.stage ≡ false
TellsProgress (Done line) w = (is_idle w.stage ≡ true) × IsLast line w.lines
