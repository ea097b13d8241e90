-- IPv4 packets (RFC 791, section 3.1).
use Rattle.std.specs.Prelude.{ℕ, ◌*◌, ◌/◌, ◌%◌, ◌^◌, ◌==◌, ◌||◌, not, nat_lt, min, if◌then◌else◌, List, length, drop, slice_index, slice_range}
use Rattle.byteorder.specs.Endian.{big_number}
use Rattle.sr_frame.specs.declared.skip.Skip.TheVariants.{NotIpv4, NotTcp, Fragment, Short}
use Rattle.sr_frame.specs.declared.seen.Seen.{Seen}
use Rattle.sr_frame.specs.Seen.{skip_if}
use Rattle.sr_frame.specs.Tcp.{segment_seen}

abbrev pub version_of : List ℕ → ℕ
version_of packet = slice_index packet 0 / 16

-- in bytes; the field counts words of four
abbrev pub header_length : List ℕ → ℕ
header_length packet = slice_index packet 0 % 16 * 4

abbrev pub total_length : List ℕ → ℕ
total_length packet = big_number 2 (drop 2 packet)

-- what the total length says, where 0 stands for all the bytes that there are
abbrev pub size_of : List ℕ → ℕ
size_of packet = if total_length packet == 0 then length packet else total_length packet

abbrev pub fragment_offset : List ℕ → ℕ
fragment_offset packet = big_number 2 (drop 6 packet) % 2 ^ 13

abbrev pub protocol_of : List ℕ → ℕ
protocol_of packet = slice_index packet 9

abbrev pub source_address : List ℕ → ℕ
source_address packet = big_number 4 (drop 12 packet)

abbrev pub destination_address : List ℕ → ℕ
destination_address packet = big_number 4 (drop 16 packet)

-- the bytes after the header, up to the packet's size and no further than there are any
abbrev pub payload_of : List ℕ → List ℕ
payload_of packet = slice_range packet (header_length packet) (min (size_of packet) (length packet))

-- what is seen in a packet with these bytes after its header
unfoldable pub payload_seen : List ℕ → List ℕ → List (ℕ × ℕ) → Seen
payload_seen packet payload vips =
    skip_if (not (protocol_of packet == 6)) NotTcp
    (skip_if (not (fragment_offset packet == 0)) Fragment
    (segment_seen (source_address packet) (destination_address packet) payload vips))

-- what is seen in a packet with the fixed bytes of its header
unfoldable pub header_seen : List ℕ → List (ℕ × ℕ) → Seen
header_seen packet vips =
    skip_if (nat_lt (header_length packet) 20 || nat_lt (length packet) (header_length packet)) Short
    (skip_if (nat_lt (size_of packet) (header_length packet)) Short
    (payload_seen packet (payload_of packet) vips))

-- what is seen in a packet
unfoldable pub packet_seen : List ℕ → List (ℕ × ℕ) → Seen
packet_seen packet vips =
    skip_if (length packet == 0) Short
    (skip_if (not (version_of packet == 4)) NotIpv4
    (skip_if (nat_lt (length packet) 20) Short
    (header_seen packet vips)))
