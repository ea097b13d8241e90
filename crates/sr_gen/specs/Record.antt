-- The record of a packet in a capture that is made from a number.
use Rattle.std.specs.Prelude.{ℕ, ◌*◌, ◌/◌, ◌%◌, ◌==◌, if◌then◌else◌, List, [], ◌∷◌, ◌++◌}
use Rattle.byteorder.specs.Endian.{big_bytes, little_bytes}
use Rattle.sr_gen.specs.declared.connection.Connection.{Connection}
use Rattle.sr_gen.specs.Connection.{connection_of}
use Rattle.sr_gen.specs.Turns.{connection_number, round_of}

-- when packet t was captured, in microseconds
abbrev pub microseconds : ℕ → ℕ
microseconds t = t * 100

-- the header of the record of a packet of 40 bytes captured then: whole seconds and the rest, and the length captured and original
abbrev pub record_header : ℕ → List ℕ
record_header time = little_bytes 4 (time / 1000000) ++ little_bytes 4 (time % 1000000) ++ little_bytes 4 40 ++ little_bytes 4 40

-- the flags of packet r, from 0, of a connection: SYN, then ACK, and FIN with ACK at the last
abbrev pub flags_of : ℕ → ℕ
flags_of r = if r == 0 then 2 else (if r == 9 then 17 else 16)

-- An IPv4 header (RFC 791) of a TCP packet of 40 bytes between these addresses: version 4 and five words, the total length, time to live
-- 64, protocol 6. All else, the checksum too, is 0.
abbrev pub ip_header : ℕ → ℕ → List ℕ
ip_header source destination =
    (0x45 ∷ 0 ∷ []) ++ big_bytes 2 40 ++ (0 ∷ 0 ∷ 0 ∷ 0 ∷ 64 ∷ 6 ∷ 0 ∷ 0 ∷ []) ++ big_bytes 4 source ++ big_bytes 4 destination

-- A TCP header (RFC 9293) of five words with these ports and flags. All else, the checksum too, is 0.
abbrev pub tcp_header : ℕ → ℕ → ℕ → List ℕ
tcp_header source destination flags =
    big_bytes 2 source ++ big_bytes 2 destination ++ (0 ∷ 0 ∷ 0 ∷ 0 ∷ 0 ∷ 0 ∷ 0 ∷ 0 ∷ 0x50 ∷ flags ∷ 0 ∷ 0 ∷ 0 ∷ 0 ∷ 0 ∷ 0 ∷ [])

-- the record of packet t, of a connection to port 80
unfoldable pub record_with : ℕ → Connection → List ℕ
record_with t c =
    record_header (microseconds t) ++ ip_header c.source c.vip ++ tcp_header c.port 80 (flags_of (round_of t))

-- the record of packet t, from 0, of the capture made from this number
abbrev pub record_of : ℕ → ℕ → List ℕ
record_of number t = record_with t (connection_of number (connection_number t))
