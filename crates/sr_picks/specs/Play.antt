-- A round that is played by picks: one step of a pipe or one turn of the controller after another, each picked by a generator.
use Rattle.std.specs.Prelude.{◌≡◌, ℕ, zero, suc, ◌+◌, ◌-◌, ◌%◌, ◌==◌, ◌&&◌, ◌||◌, nat_le, not, Bool, true, false, List, [], ◌∷◌, ◌++◌, find, slice_get, slice_set, Option, None, Some, if◌then◌else◌}
use Rattle.std.specs.List.{list_all, range_with_len}
use Rattle.sr_base.specs.declared.packet.Packet.{Packet}
use Rattle.sr_gen.specs.Generator.{drawn, next_state}
use Rattle.sr_machine.specs.Core.{Core}
use Rattle.sr_machine.specs.Pipe.{is_idle}
use Rattle.sr_machine.specs.declared.actor.Actor.TheVariants as actor
use Rattle.sr_machine.specs.declared.event.Event.TheVariants.{Enter, Step}
use Rattle.sr_machine.specs.declared.pipe_view.PipeView.{PipeView}
use Rattle.sr_machine.specs.declared.turn.Turn.{Turn}
use Rattle.sr_machine.specs.declared.turn.Turn.TheVariants.{NoRoom, VersionsFull, Idle}
use Rattle.sr_picks.specs.Turn.{after, turn_of}

pub record Play : Type 0 where
  -- where the machine stands
  pub state : Core
  -- the packets that each pipe hasn't handled yet, by its number
  pub shares : List (List Packet)
  -- how many turns the controller has made in this round
  pub turns : ℕ
  -- how many of the last ones found nothing to do, counted once every pipe has handled its share
  pub waits : ℕ
  -- the generator
  pub generator : ℕ

-- ---- when an actor has ended its round

-- the controller's turns in a round, at most
abbrev pub most_turns : ℕ
most_turns = 1048576

-- and those in a row that find nothing to do once every pipe is done
abbrev pub most_waits : ℕ
most_waits = 1024

abbrev pub is_handled : List Packet → Bool
is_handled [] = true
is_handled (packet ∷ rest) = false

-- a pipe has no packet in hand; nor has one that isn't there
abbrev pub pipe_idle : Option PipeView → Bool
pipe_idle None = true
pipe_idle (Some v) = is_idle v.stage

-- what is left of a share; nothing of one that isn't there
abbrev pub share_of : Option (List Packet) → List Packet
share_of None = []
share_of (Some share) = share

-- every pipe has handled its share
abbrev pub all_done : List PipeView → List (List Packet) → Bool
all_done views shares = list_all (λ v. is_idle v.stage) views && list_all is_handled shares

-- the controller has ended its round
abbrev pub turns_ended : Play → Bool
turns_ended p = nat_le most_turns p.turns || (all_done p.state.pipes p.shares && nat_le most_waits p.waits)

-- actors are picked by number: a pipe by its own, the controller by the number of pipes
abbrev pub pipes_of : Play → ℕ
pipes_of p = p.state.config.layout.shape.pipes

-- an actor has ended its round: a pipe has no packet in hand, and none left of its share
abbrev pub has_ended : Play → ℕ → Bool
has_ended p i =
    if i == pipes_of p then turns_ended p else (pipe_idle (slice_get p.state.pipes i) && is_handled (share_of (slice_get p.shares i)))

-- every actor has
abbrev pub is_over : Play → Bool
is_over p = list_all (has_ended p) (range_with_len 0 (pipes_of p + 1))

-- ---- a pick

-- the actors from this one on: the pipes in order, the controller, and the pipes before it
abbrev pub order_from : ℕ → ℕ → List ℕ
order_from pipes i = range_with_len i (pipes + 1 - i) ++ range_with_len 0 i

-- the actor that a draw picks: the first from the drawn one on that hasn't ended its round
abbrev pub picked : Play → ℕ → Option ℕ
picked p x = find (λ i. not (has_ended p i)) (order_from (pipes_of p) (drawn x % (pipes_of p + 1)))

-- a pipe makes its next step; an idle one takes the next packet of its share first
abbrev pub stepped_by : Play → ℕ → Bool → List Packet → Play
stepped_by p i true (packet ∷ rest) = record p {
  state = after (Step (actor.Pipe i)) (after (Enter i packet) p.state);
  shares = slice_set p.shares i rest;
}
stepped_by p i idle share = record p { state = after (Step (actor.Pipe i)) p.state }

abbrev pub pipe_picked : Play → ℕ → Play
pipe_picked p i = stepped_by p i (pipe_idle (slice_get p.state.pipes i)) (share_of (slice_get p.shares i))

-- the turn found nothing to do
abbrev pub finds_nothing : Option Turn → Bool
finds_nothing (Some (NoRoom key)) = true
finds_nothing (Some (VersionsFull vip)) = true
finds_nothing (Some Idle) = true
finds_nothing None = true
finds_nothing (Some turn) = false

-- one wait more, or none in a row; none is counted while a pipe has packets to handle
abbrev pub waits_after : Bool → Bool → ℕ → ℕ
waits_after true true waits = waits + 1
waits_after done nothing waits = 0

-- the controller makes a turn
abbrev pub controller_picked : Play → Play
controller_picked p = record p {
  state = (turn_of p.state).state;
  turns = p.turns + 1;
  waits = waits_after (all_done p.state.pipes p.shares) (finds_nothing (turn_of p.state).answer) p.waits;
}

abbrev pub act_of : Play → ℕ → Play
act_of p i = if i == pipes_of p then controller_picked p else pipe_picked p i

-- the play after a pick; where all have ended their round nothing is picked
abbrev pub pick_by : Play → ℕ → Option ℕ → Play
pick_by p x None = p
pick_by p x (Some i) = record (act_of p i) { generator = x }

abbrev pub pick : Play → Play
pick p = pick_by p (next_state p.generator) (picked p (next_state p.generator))

-- ---- a round

-- so many picks
abbrev pub played : ℕ → Play → Play
played zero p = p
played (suc n) p = played n (pick p)

-- picks lead to the end of the round
abbrev pub PlaysTo : Play → Play → Type 0
PlaysTo p q = (n : ℕ) × (played n p ≡ q) × (is_over q ≡ true)

-- ---- a round of which nobody says who is next

-- these actors act, one after another
abbrev pub acted : List ℕ → Play → Play
acted [] p = p
acted (i ∷ rest) p = acted rest (act_of p i)

-- acts lead to the end of the round, in whatever order
abbrev pub ActsTo : Play → Play → Type 0
ActsTo p q = (actors : List ℕ) × (acted actors p ≡ q) × (is_over q ≡ true)
