-- What comes next in a capture, read off the bytes that are left.
use Rattle.std.specs.Prelude.{ℕ, ◌+◌, ◌==◌, nat_lt, if◌then◌else◌, List, length, take, drop}
use Rattle.sr_pcap.specs.declared.format.Format.{Format}
use Rattle.sr_pcap.specs.declared.next.Next.{Next}
use Rattle.sr_pcap.specs.declared.next.Next.TheVariants.{Whole, End, Truncated, TooLong}
use Rattle.sr_pcap.specs.Format.{milliseconds, captured_length, most_captured}

-- what comes where the bytes begin with the header of a record with this time and this many captured bytes
unfoldable pub next_sized : ℕ → ℕ → ℕ → List ℕ → Next
next_sized ms size offset bytes =
    if nat_lt most_captured size then TooLong offset size
    else (if nat_lt (length bytes) (16 + size) then Truncated offset else Whole ms offset)

-- how many captured bytes the record has whose header the bytes begin with
abbrev pub size_at : Format → List ℕ → ℕ
size_at format bytes = captured_length format (take 16 bytes)

-- what comes where these bytes are left and the first of them stands at this offset
unfoldable pub next_at : Format → ℕ → List ℕ → Next
next_at format offset bytes =
    if length bytes == 0 then End
    else (if nat_lt (length bytes) 16 then Truncated offset
    else next_sized (milliseconds format (take 16 bytes)) (size_at format bytes) offset bytes)

-- the captured bytes of the record that the bytes begin with
abbrev pub frame_at : Format → List ℕ → List ℕ
frame_at format bytes = take (size_at format bytes) (drop 16 bytes)

-- the bytes after that record
abbrev pub rest_at : Format → List ℕ → List ℕ
rest_at format bytes = drop (16 + size_at format bytes) bytes
