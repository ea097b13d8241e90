-- Ticks: each was drawn once and is below the next one, and a note holds the tick of its pipe's packet.
use Rattle.std.specs.Prelude.{◌≡◌, ℕ, ◌<◌, ◌≤◌}
use Rattle.sr_inv_facts.specs.InTicks.{times}
use Rattle.sr_inv_facts.specs.InWords.{note_of}
use Rattle.sr_inv_facts.specs.Readings.{EachPipe}
use Rattle.sr_machine.specs.Core.{Core}
use Rattle.sr_machine.specs.declared.name.Name.TheVariants as name

-- The tick word is greater than every tick in a view, and no tick stands in the views twice, in lines, of packets in hand or of the
-- controller. A note is its packet's tick from its store until it is cleared, and else 0.
pub record TicksHold (s : Core) : Type 0 where
  pub below : (t : ℕ) → 1 ≤ times t s.pipes s.controller → (1 ≤ t) × (t < s.words name.Tick)
  pub differ : (t : ℕ) → times t s.pipes s.controller ≤ 1
  pub noted : EachPipe (λ p v. s.words (name.Note p) ≡ note_of v.stage) s.pipes
