-- A state in which nothing is under way that a line is still to tell.
use Rattle.std.specs.Prelude.{◌≡◌, ℕ, ◌<◌, true, ◌≢◌, List, []}
use Rattle.sr_base.specs.declared.packet.Packet.{Packet}
use Rattle.sr_base.specs.declared.ring_word.RingKind.TheVariants.{Punt}
use Rattle.sr_inv_facts.specs.InCauses.{setup_of}
use Rattle.sr_inv_facts.specs.Readings.{EachPipe, OnReport, from_place, ring_words}
use Rattle.sr_law.specs.Setup.{SetupView}
use Rattle.sr_machine.specs.Config.{Config}
use Rattle.sr_machine.specs.Core.{Core}
use Rattle.sr_machine.specs.Deciding.{ring_count}
use Rattle.sr_machine.specs.Pipe.{is_idle}
use Rattle.sr_machine.specs.Stages.{ring_cell}

-- no pipe has a packet in hand
abbrev pub AreIdle : Core → Type 0
AreIdle s = EachPipe (λ p v. is_idle v.stage ≡ true) s.pipes

-- the word of a ring at a position from the controller's place on tells of no held opener
abbrev pub TellsNone : Core → ℕ → ℕ → Type 0
TellsNone s pipe i =
    OnReport s.config.layout (from_place s.config.layout s.controller.rings (ring_words s.words) pipe i) (λ w. w.kind ≢ Punt)

-- no pipe has a packet in hand, no report of a held opener waits in a ring, and the controller has none that it is still to answer
pub record IsAtRest (s : Core) : Type 0 where
  pub idle : AreIdle s
  pub told : (pipe i : ℕ) → pipe < s.config.layout.shape.pipes → i < s.config.layout.shape.ring → TellsNone s pipe i
  pub answered : s.controller.held ≡ []

-- the cell of each ring that the controller would load next is empty
abbrev pub AreEmpty : Core → Type 0
AreEmpty s =
    (pipe : ℕ) → pipe < s.config.layout.shape.pipes
    → s.words (ring_cell s.config.layout pipe (ring_count s.controller.rings pipe).words) ≡ 0

-- what the lines are judged by at the end, when these packets have entered
abbrev pub setup_with : Config → List Packet → SetupView
setup_with k packets = record (setup_of k) { packets = packets }
