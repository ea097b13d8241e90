-- Whose turn it is, from one packet to the next.
use Rattle.std.proofs.Common.{◌≡◌, ℕ, ◌+◌, ◌*◌, ◌/◌, ap, refl, add-one, arith}
use Rattle.sr_gen.specs.Generator.{next_state, drawn, state_after}
use Rattle.sr_gen.specs.Connection.{connection_with, connection_of}
use Rattle.sr_gen.specs.Connections.{StandsAt}
use Rattle.sr_gen.specs.Turns.{connection_number}

-- one step more
pub state_more : (n seed : ℕ) → next_state (state_after n seed) ≡ state_after (n + 1) seed
unfolding state_after
state_more n seed = rw add-one refl

-- a connection that has its own draw
pub connection_drawn : (number i j v state : ℕ) → i ≡ j → v ≡ drawn state → state ≡ state_after (j + 1) number → connection_with i v ≡ connection_of number j
connection_drawn number i j v state same value at = cc

-- as no packet leaves it
pub stands_first : (seed : ℕ) → StandsAt seed 0 (record { block = seed; generator = seed })
unfolding state_after
stands_first seed = record { block = λ later. refl; first = λ begins. refl; within = λ inside. refl }

-- as packet t leaves it, once its connection is drawn
pub stands_next : (number t : ℕ) → StandsAt number (t + 1) (record { block = state_after (100 * (t / 1000)) number; generator = state_after (connection_number t + 1) number })
stands_next number t = record {
  block = λ later. let same : 100 * (t / 1000) ≡ 100 * ((t + 1) / 1000) = omega arith in ap (λ n. state_after n number) same;
  first = λ begins. let same : connection_number t + 1 ≡ connection_number (t + 1) = omega arith in ap (λ n. state_after n number) same;
  within = λ inside. let same : connection_number t + 1 ≡ connection_number (t + 1) = omega arith in ap (λ n. state_after n number) same;
}
