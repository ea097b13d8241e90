-- States that a run reaches.
use Rattle.std.specs.List.{AllByRecursion}
use Rattle.std.specs.Prelude.{◌≡◌, List, Some}
use Rattle.sr_inv_facts.specs.Fitted.{IsFitted, IsPacket}
use Rattle.sr_inv_facts.specs.Invariant.{Invariant}
use Rattle.sr_machine.specs.Config.{Config}
use Rattle.sr_machine.specs.Core.{Core, opening, run}
use Rattle.sr_machine.specs.Keeping.{Brings}
use Rattle.sr_machine.specs.declared.event.Event.{Event}

-- every state that events lead to from the beginning meets the invariant; the packets that enter are ones
abbrev pub EveryStateMeets : Type 0
EveryStateMeets =
    (k : Config) → IsFitted k → (events : List Event) (s : Core) → AllByRecursion (Brings IsPacket) events
    → run events (opening k) ≡ Some s
    → Invariant s
