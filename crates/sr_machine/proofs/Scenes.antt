-- What the worked rows are played with: a small layout, some packets, and a way to write a course of events.
use Rattle.std.proofs.Common.{ℕ, ◌+◌, zero, suc, Bool, true, false, List, [], ◌∷◌, option_and_then, option_map, slice_get, Option, Some, None}
use Rattle.sr_base.specs.Key.{KeyView}
use Rattle.sr_base.specs.declared.change.Change.{Change}
use Rattle.sr_base.specs.declared.change.What.TheVariants.{Give, TakeDown}
use Rattle.sr_base.specs.declared.kind.Kind.{Kind}
use Rattle.sr_base.specs.declared.packet.Packet.{Packet}
use Rattle.sr_base.specs.declared.shape.Shape.{Shape}
use Rattle.sr_law.specs.Pools.{pools_from}
use Rattle.sr_law.specs.declared.line.Line.{Line}
use Rattle.sr_machine.specs.Config.{Config}
use Rattle.sr_machine.specs.Core.{Core, opening, step_event, lines_of}
use Rattle.sr_machine.specs.Pipe.{is_idle}
use Rattle.sr_machine.specs.Settling.{settled_in}
use Rattle.sr_machine.specs.Turning.{turned}
use Rattle.sr_machine.specs.declared.settled.Settled.{Settled}
use Rattle.sr_machine.specs.declared.turn.Turn.{Turn}
use Rattle.sr_machine.specs.declared.actor.Actor.TheVariants as actor
use Rattle.sr_machine.specs.declared.event.Event.{Event}
use Rattle.sr_machine.specs.declared.event.Event.TheVariants as event

-- one bucket a way and no digest, so that all keys of a virtual address clash in both ways
abbrev pub small_shape : Shape
small_shape = record {
  pipes = 1;
  buckets = 1;
  digest_bits = 0;
  versions = 4;
  pool_max = 1;
  full_rows = 4;
  filter_bits = 1;
  ring = 8;
  window_ms = 1;
  idle_ms = 1;
  lives = 1;
}

-- two servers, and one virtual address whose first pool is server 0
abbrev pub scene : Shape → List Change → Config
scene shape changes = record {
  layout = record { shape = shape; vips = 1; servers = 2 };
  pools = pools_from 0 ((0 ∷ []) ∷ []) changes;
  changes = changes;
}

-- the virtual address is given this server alone at this time
abbrev pub give_at : ℕ → ℕ → Change
give_at ms server = record { at_ms = ms; what = Give 0 (server ∷ []) }

abbrev pub down_at : ℕ → ℕ → Change
down_at ms server = record { at_ms = ms; what = TakeDown server }

-- client 10.0.0.n, port 4000
abbrev pub client : ℕ → KeyView
client n = record { vip = 0; ip = 167772160 + n; port = 4000 }

abbrev pub packet_of : ℕ → KeyView → Kind → Packet
packet_of number key kind = record { number = number; key = key; kind = kind }

-- a course of events
pub data Scenery : Type 0 where
  -- a packet enters on a pipe, and is handled whole
  Handles : ℕ → Packet → Scenery
  -- it only enters
  Comes : ℕ → Packet → Scenery
  -- a pipe makes so many steps
  Pipes : ℕ → ℕ → Scenery
  -- a pipe makes steps until it is idle
  Ends : ℕ → Scenery
  -- the controller makes so many steps
  Controls : ℕ → Scenery
  -- so many turns
  Turns : ℕ → Scenery
  -- turns until nothing is left
  Settles : Scenery
  Tells : ℕ → Scenery
  Refuses : Scenery

abbrev pub idle_at : ℕ → Core → Bool
idle_at p s = elim (slice_get s.pipes p) [ None ↦ true | Some v ↦ is_idle v.stage ]

abbrev pub steps_of : Event → ℕ → Core → Option Core
steps_of e zero s = Some s
steps_of e (suc n) s = option_and_then (steps_of e n) (step_event e s)

abbrev pub ended_in : ℕ → ℕ → Core → Option Core
ended_in p zero s = None
ended_in p (suc n) s =
    elim (idle_at p s) [ true ↦ Some s | false ↦ option_and_then (ended_in p n) (step_event (event.Step (actor.Pipe p)) s) ]

abbrev pub turns_of : ℕ → Core → Option Core
turns_of zero s = Some s
turns_of (suc n) s = option_and_then (λ p. turns_of n p.1) (turned s)

abbrev pub answers_of : ℕ → Core → Option (List Turn)
answers_of zero s = Some []
answers_of (suc n) s = option_and_then (λ p. option_map (λ rest. p.0 ∷ rest) (answers_of n p.1)) (turned s)

abbrev pub play : Scenery → Core → Option Core
play (Handles p packet) s = option_and_then (ended_in p 26) (step_event (event.Enter p packet) s)
play (Comes p packet) s = step_event (event.Enter p packet) s
play (Pipes p n) s = steps_of (event.Step (actor.Pipe p)) n s
play (Ends p) s = ended_in p 26 s
play (Controls n) s = steps_of (event.Step actor.Controller) n s
play (Turns n) s = turns_of n s
play Settles s = option_map (λ p. p.1) (settled_in 200 s)
play (Tells ms) s = step_event (event.Due ms) s
play Refuses s = step_event event.Refuse s

abbrev pub played : List Scenery → Core → Option Core
played [] s = Some s
played (x ∷ xs) s = option_and_then (played xs) (play x s)

-- the lines after a course of events
abbrev pub lines_after : Config → List Scenery → Option (List Line)
lines_after k course = elim (played course (opening k)) [ None ↦ None | Some s ↦ Some (lines_of s) ]

-- what so many turns answer after it
abbrev pub answers_after : Config → List Scenery → ℕ → Option (List Turn)
answers_after k course n = option_and_then (answers_of n) (played course (opening k))

-- how the turns after it end
abbrev pub ending_after : Config → List Scenery → Option Settled
ending_after k course = option_map (λ p. p.0) (option_and_then (settled_in 200) (played course (opening k)))
