-- TCP segments (RFC 9293, section 3.1).
use Rattle.std.specs.Prelude.{ℕ, ◌==◌, ◌&&◌, ◌||◌, not, nat_lt, bit_and, Bool, if◌then◌else◌, List, length, drop, slice_index, Option, Some, None}
use Rattle.byteorder.specs.Endian.{big_number}
use Rattle.sr_base.specs.declared.kind.Kind.{Kind}
use Rattle.sr_base.specs.declared.kind.Kind.TheVariants.{Opener, Carry, Ending}
use Rattle.sr_frame.specs.declared.skip.Skip.TheVariants.{Short, NotVip}
use Rattle.sr_frame.specs.declared.seen.Seen.{Seen}
use Rattle.sr_frame.specs.declared.seen.Seen.TheVariants.{Packet, Skipped}
use Rattle.sr_frame.specs.Seen.{skip_if}
use Rattle.sr_frame.specs.Vip.{vip_number}

abbrev pub source_port : List ℕ → ℕ
source_port segment = big_number 2 segment

abbrev pub destination_port : List ℕ → ℕ
destination_port segment = big_number 2 (drop 2 segment)

abbrev pub flags_of : List ℕ → ℕ
flags_of segment = slice_index segment 13

-- whether a flag, a power of two, is set
abbrev pub is_set : ℕ → ℕ → Bool
is_set flag flags = not (bit_and flags flag == 0)

abbrev pub fin : ℕ → Bool
fin = is_set 1

abbrev pub syn : ℕ → Bool
syn = is_set 2

abbrev pub rst : ℕ → Bool
rst = is_set 4

abbrev pub ack : ℕ → Bool
ack = is_set 16

-- what a segment with these flags is to its connection
abbrev pub kind : ℕ → Kind
kind flags =
    if fin flags || rst flags then Ending
    else (if syn flags && not (ack flags) then Opener else Carry)

-- a segment to this virtual address, if it is one
abbrev pub addressed : Option ℕ → ℕ → List ℕ → Seen
addressed None source segment = Skipped NotVip
addressed (Some vip) source segment =
    Packet (record { vip = vip; ip = source; port = source_port segment }) (kind (flags_of segment))

-- what is seen in a segment between these addresses
unfoldable pub segment_seen : ℕ → ℕ → List ℕ → List (ℕ × ℕ) → Seen
segment_seen source destination segment vips =
    skip_if (nat_lt (length segment) 14) Short
    (addressed (vip_number 0 destination (destination_port segment) vips) source segment)
