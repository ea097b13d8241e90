-- The connections of a capture that is made from a number.
use Rattle.std.specs.Prelude.{ℕ, ◌+◌, ◌*◌, ◌/◌, ◌%◌}
use Rattle.sr_gen.specs.declared.connection.Connection.{Connection}
use Rattle.sr_gen.specs.Generator.{draw_of}

-- the IPv4 address a.b.c.d
abbrev pub address : ℕ → ℕ → ℕ → ℕ → ℕ
address a b c d = ((a * 256 + b) * 256 + c) * 256 + d

-- Connection i with its draw v. Its client has the address 10.0.0.1 and i more; the draw picks the client's port, 1024 to 61023, and
-- one of the virtual addresses 192.0.2.1 to 192.0.2.4.
abbrev pub connection_with : ℕ → ℕ → Connection
connection_with i v = record { source = address 10 0 0 1 + i; port = 1024 + (v / 4) % 60000; vip = address 192 0 2 (1 + v % 4) }

-- connection i, from 0, of the capture made from this number: it has draw i
abbrev pub connection_of : ℕ → ℕ → Connection
connection_of number i = connection_with i (draw_of i number)
