-- How a capture that is made from a number is read.
use Rattle.std.specs.Prelude.{◌≡◌, ℕ, zero, suc, ◌+◌, ◌*◌, ◌/◌, ◌≤◌, List, [], ◌∷◌, ◌++◌, length, None, Ok}
use Rattle.sr_capture.specs.Capture.{capture_of}
use Rattle.sr_capture.specs.Records.{Frame, Records}
use Rattle.sr_gen.specs.Capture.{most_packets}
use Rattle.sr_gen.specs.Capture.{capture_of as made_of}
use Rattle.sr_gen.specs.Connection.{connection_of}
use Rattle.sr_gen.specs.Record.{flags_of, ip_header, tcp_header}
use Rattle.sr_gen.specs.Turns.{connection_number, round_of}
use Rattle.sr_gen.specs.declared.connection.Connection.{Connection}

-- how many bytes it has
abbrev pub MadeAreLong : Type 0
MadeAreLong = (number packets : ℕ) → length (made_of number packets) ≡ 24 + 56 * packets

-- it is read as a capture with so many whole records, and ends behind them
abbrev pub MadeAreWhole : Type 0
MadeAreWhole =
    (number packets : ℕ) → packets ≤ most_packets
    → (records : Records) × (capture_of (made_of number packets) ≡ Ok records) × (length records.frames ≡ packets) × (records.ending ≡ None)

-- the record of packet t of a connection: a tenth of a millisecond after the packet before, it is an IP packet
abbrev pub frame_with : ℕ → Connection → Frame
frame_with t c = record { ms = t / 10; link = 101; bytes = ip_header c.source c.vip ++ tcp_header c.port 80 (flags_of (round_of t)) }

-- the records of so many packets, from packet t on
abbrev pub frames_from : ℕ → ℕ → ℕ → List Frame
frames_from number t zero = []
frames_from number t (suc left) = frame_with t (connection_of number (connection_number t)) ∷ frames_from number (t + 1) left

-- and these are its records
abbrev pub MadeAreFrames : Type 0
MadeAreFrames =
    (number packets : ℕ) → packets ≤ most_packets
    → capture_of (made_of number packets) ≡ Ok (record { frames = frames_from number 0 packets; ending = None })
