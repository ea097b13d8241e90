-- What the turns over a board are to the machine.
use Rattle.std.specs.Prelude.{◌≡◌, ℕ, List, Some}
use Rattle.sr_core.specs.Making.{AnsweredBy, Made, words_after}
use Rattle.sr_ctl.specs.Settles.{EndsSo}
use Rattle.sr_ctl.specs.Steps.{steps_made}
use Rattle.sr_ctl.specs.Turned.{Turned}
use Rattle.sr_machine.specs.Core.{Core}
use Rattle.sr_machine.specs.Settling.{Settles}
use Rattle.sr_machine.specs.Turning.{turned}
use Rattle.sr_machine.specs.declared.controller_view.ControllerView.{ControllerView}
use Rattle.sr_machine.specs.declared.settled.Settled.{Settled}
use Rattle.sr_machine.specs.declared.settled.Settled.TheVariants.{Memory}
use Rattle.sr_machine.specs.declared.turn.Turn.{Turn}

-- the state after these steps of its controller, which knows this then
abbrev pub stepped_to : Core → List Made → ControllerView → Core
stepped_to s steps d = record s { words = words_after s.words steps; controller = d }

-- A turn of the controller of a state, whose steps found the words of that state, is the machine's turn from it.
abbrev pub TurnsAsMachine : Type 0
TurnsAsMachine =
    (s : Core) (t : Turn) (d : ControllerView) (answers : List ℕ) → Turned s.config s.controller t d answers
    → AnsweredBy s.words (steps_made s.config s.controller answers)
    → turned s ≡ Some (t, stepped_to s (steps_made s.config s.controller answers) d)

-- Turns that ended so, of the controller of a state, whose steps found the words of that state, lead the machine from it to the state that has
-- these steps behind it.
abbrev pub SettlesAsMachine : Type 0
SettlesAsMachine =
    (s : Core) (r : Settled) (steps : List Made) (d : ControllerView) → (r ≡ Memory → ⊥) → EndsSo s.config s.controller r steps d
    → AnsweredBy s.words steps → Settles s r (stepped_to s steps d)
