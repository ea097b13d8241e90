-- A linear congruential generator of 64 bits, with the constants of Knuth's MMIX.
use Rattle.std.specs.Prelude.{ℕ, zero, suc, ◌+◌, ◌*◌, ◌/◌, ◌%◌, ◌^◌}

-- its step
abbrev pub next_state : ℕ → ℕ
next_state x = (x * 6364136223846793005 + 1442695040888963407) % 2 ^ 64

-- what is drawn from the state after a step: its high 31 bits
abbrev pub drawn : ℕ → ℕ
drawn x = x / 2 ^ 33

-- the state after so many steps from a seed
unfoldable pub state_after : ℕ → ℕ → ℕ
state_after zero seed = seed
state_after (suc n) seed = next_state (state_after n seed)

-- what draw i gives, from 0: each makes a step first
abbrev pub draw_of : ℕ → ℕ → ℕ
draw_of i seed = drawn (state_after (i + 1) seed)
