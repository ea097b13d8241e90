-- Where a walk over the packets, in capture order, stands in the draws of their connections.
use Rattle.std.specs.Prelude.{◌≡◌, ◌≢◌, ℕ, ◌*◌, ◌/◌, ◌%◌}
use Rattle.sr_gen.specs.declared.connections.Connections.{Connections}
use Rattle.sr_gen.specs.Generator.{state_after}
use Rattle.sr_gen.specs.Turns.{connection_number}

-- as the draw of packet t's connection needs it: the generator before the block's first draw, and before that draw
abbrev pub ready : ℕ → ℕ → Connections
ready number t = record { block = state_after (100 * (t / 1000)) number; generator = state_after (connection_number t) number }

-- As the packets before t leave it: the block's start is known but for the first packet of a block, and the generator stands before the
-- draw of packet t's connection but for the first packet of a later round, whose connections were all drawn before.
pub record StandsAt (number t : ℕ) (c : Connections) : Type 0 where
  pub block : t % 1000 ≢ 0 → c.block ≡ state_after (100 * (t / 1000)) number
  pub first : t % 1000 ≡ 0 → c.generator ≡ state_after (connection_number t) number
  pub within : t % 100 ≢ 0 → c.generator ≡ state_after (connection_number t) number
