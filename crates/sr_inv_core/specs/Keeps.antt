-- A step of the machine as code keeps the invariant.
use Rattle.std.specs.Prelude.{ℕ, List, [], ◌∷◌}
use Rattle.sr_core.specs.HeldCore.{HeldCore, Shows, state_of}
use Rattle.sr_core.specs.PlainWords.{ShowsWords}
use Rattle.sr_inv_facts.specs.Invariant.{Invariant}
use Rattle.sr_machine.specs.Core.{Core}
use Rattle.sr_machine.specs.declared.actor.Actor.TheVariants as actor
use Rattle.sr_machine.specs.declared.event.Event.{Event}
use Rattle.sr_machine.specs.declared.event.Event.TheVariants.{Enter, Due, Refuse, Step}
use Rattle.sr_machine.specs.declared.name.Name.{Name}
use Rattle.sr_picks.specs.Turn.{after}

-- a packet that enters, or a step of a pipe
abbrev pub IsOfPipe : Event → Type 0
IsOfPipe (Enter pipe packet) = Unit {0}
IsOfPipe (Step (actor.Pipe pipe)) = Unit {0}
IsOfPipe event = ⊥

-- a step of the controller
abbrev pub IsOfController : Event → Type 0
IsOfController (Step actor.Controller) = Unit {0}
IsOfController event = ⊥

-- a step of the controller, the clock, or a refusal
abbrev pub IsOfUpdate : Event → Type 0
IsOfUpdate (Due ms) = Unit {0}
IsOfUpdate Refuse = Unit {0}
IsOfUpdate (Step actor.Controller) = Unit {0}
IsOfUpdate event = ⊥

-- The machine stands for a state that meets the invariant.
abbrev pub Stands : HeldCore → Type 0
Stands held = (t : Core) × Shows held t × Invariant t

-- A machine that stands for a state that meets the invariant stands for one again.
abbrev pub StandsOn : HeldCore → HeldCore → Type 0
StandsOn old new =
    (words : Name → ℕ) → ShowsWords old.config.layout old.words words → Invariant (state_of old words) → Stands new

-- what these events lead to, one after another, where one that can't be made changes nothing
abbrev pub led : List Event → Core → Core
led [] s = s
led (e ∷ rest) s = led rest (after e s)
