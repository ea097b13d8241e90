-- Whose turn it is. Packets come in blocks of a thousand: ten rounds over a hundred connections, which no other block has.
use Rattle.std.specs.Prelude.{ℕ, ◌+◌, ◌*◌, ◌/◌, ◌%◌}

-- the connection, from 0, that packet t has, from 0
abbrev pub connection_number : ℕ → ℕ
connection_number t = 100 * (t / 1000) + t % 100

-- which of its connection's ten packets packet t is, from 0
abbrev pub round_of : ℕ → ℕ
round_of t = (t % 1000) / 100
