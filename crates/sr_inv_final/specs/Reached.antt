-- A state that events lead to, with these events: beside the state they tell which packets entered.
use Rattle.std.specs.List.{AllByRecursion}
use Rattle.std.specs.Prelude.{◌≡◌, List, [], ◌∷◌, ◌++◌, Some}
use Rattle.sr_base.specs.declared.packet.Packet.{Packet}
use Rattle.sr_inv_facts.specs.Fitted.{IsPacket}
use Rattle.sr_machine.specs.Config.{Config}
use Rattle.sr_machine.specs.Core.{Core, opening, run}
use Rattle.sr_machine.specs.Keeping.{Brings}
use Rattle.sr_machine.specs.declared.event.Event.{Event}
use Rattle.sr_machine.specs.declared.event.Event.TheVariants as event

-- the packet that enters with an event
abbrev pub entered_by : Event → List Packet
entered_by (event.Enter p packet) = packet ∷ []
entered_by e = []

-- the packets that enter in a run, in order
abbrev pub entered_in : List Event → List Packet
entered_in [] = []
entered_in (e ∷ rest) = entered_by e ++ entered_in rest

-- the events lead to the state from the opening, and what enters is as every packet is
pub record IsReached (k : Config) (s : Core) : Type 0 where
  pub events : List Event
  pub leads : run events (opening k) ≡ Some s
  pub packets : AllByRecursion (Brings IsPacket) events
