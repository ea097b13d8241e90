-- The whole capture that is made from a number.
use Rattle.std.specs.Prelude.{ℕ, zero, suc, ◌+◌, List, [], ◌++◌}
use Rattle.byteorder.specs.Endian.{little_bytes}
use Rattle.sr_gen.specs.Record.{record_of}

-- the most packets that a capture is made of
abbrev pub most_packets : ℕ
most_packets = 4194304

-- the header of a classic capture in microseconds, the lowest byte of each number first: magic, version 2.4, zone, significant figures,
-- snap length, and the link type of raw IP
abbrev pub capture_header : List ℕ
capture_header =
    little_bytes 4 0xa1b2c3d4 ++ little_bytes 2 2 ++ little_bytes 2 4 ++ little_bytes 4 0 ++ little_bytes 4 0 ++ little_bytes 4 0x40000 ++ little_bytes 4 101

-- the records of so many packets, from packet t on
unfoldable pub records_from : ℕ → ℕ → ℕ → List ℕ
records_from number t zero = []
records_from number t (suc left) = record_of number t ++ records_from number (t + 1) left

-- the capture of so many packets that is made from this number
unfoldable pub capture_of : ℕ → ℕ → List ℕ
capture_of number packets = capture_header ++ records_from number 0 packets
