-- Ethernet frames (IEEE 802.3) with tags (IEEE 802.1Q and 802.1ad).
use Rattle.std.specs.Prelude.{ℕ, zero, suc, ◌==◌, ◌||◌, not, nat_lt, Bool, if◌then◌else◌, List, length, drop}
use Rattle.byteorder.specs.Endian.{big_number}
use Rattle.sr_frame.specs.declared.skip.Skip.TheVariants.{NotIpv4, Short}
use Rattle.sr_frame.specs.declared.seen.Seen.{Seen}
use Rattle.sr_frame.specs.Seen.{skip_if}
use Rattle.sr_frame.specs.Ipv4.{packet_seen}

-- the type that these bytes begin with
abbrev pub type_of : List ℕ → ℕ
type_of bytes = big_number 2 bytes

-- a tag stands here
abbrev pub is_tag : List ℕ → Bool
is_tag bytes = (type_of bytes == 0x8100) || (type_of bytes == 0x88a8)

-- what is seen in a frame from its type on, which is the packet's
unfoldable pub untagged_seen : List ℕ → List (ℕ × ℕ) → Seen
untagged_seen bytes vips =
    skip_if (not (type_of bytes == 0x0800)) NotIpv4
    (packet_seen (drop 2 bytes) vips)

-- what is seen in a frame from its type on, where up to so many tags may stand before that of the packet
unfoldable pub tagged_seen : ℕ → List ℕ → List (ℕ × ℕ) → Seen
tagged_seen zero bytes vips = untagged_seen bytes vips
tagged_seen (suc tags) bytes vips =
    if is_tag bytes then skip_if (nat_lt (length bytes) 6) Short (tagged_seen tags (drop 4 bytes) vips)
    else untagged_seen bytes vips

-- what is seen in a frame: two addresses of six bytes each, up to two tags, the type, the packet
unfoldable pub ethernet_seen : List ℕ → List (ℕ × ℕ) → Seen
ethernet_seen bytes vips =
    skip_if (nat_lt (length bytes) 14) Short
    (tagged_seen 2 (drop 12 bytes) vips)
