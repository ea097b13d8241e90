-- What is proved of a family: it holds at the opening, of the state in which the controller has begun its act, and after each event.
use Rattle.std.specs.Prelude.{◌≡◌, Some}
use Rattle.sr_inv_facts.specs.Fitted.{IsFitted, IsPacket}
use Rattle.sr_inv_facts.specs.Invariant.{Holds, Invariant}
use Rattle.sr_machine.specs.Config.{Config}
use Rattle.sr_machine.specs.Core.{opening, Core, step_event}
use Rattle.sr_machine.specs.Keeping.{Brings, begun_core}
use Rattle.sr_machine.specs.declared.event.Event.{Event}

abbrev pub OpensWith : (Core → Type 0) → Type 0
OpensWith Family = (k : Config) → IsFitted k → Family (opening k)

-- the invariant before
abbrev pub BegunKeeps : (Core → Type 0) → Type 0
BegunKeeps Family = (s : Core) → Invariant s → Family (begun_core s)

-- The invariant before, also where the controller has begun its act. The packet that enters is one, as every value of its type is.
abbrev pub EventsKeep : (Core → Type 0) → Type 0
EventsKeep Family = (s t : Core) (e : Event) → Holds s → Brings IsPacket e → step_event e s ≡ Some t → Family t
