-- What is seen in a captured frame.
use Rattle.std.specs.Prelude.{ℕ, ◌==◌, if◌then◌else◌, List}
use Rattle.sr_frame.specs.declared.seen.Seen.{Seen}
use Rattle.sr_frame.specs.Ethernet.{ethernet_seen}
use Rattle.sr_frame.specs.Ipv4.{packet_seen}

-- of the link type 1 an Ethernet frame, and of 101 an IP packet
abbrev pub seen : ℕ → List ℕ → List (ℕ × ℕ) → Seen
seen link bytes vips = if link == 1 then ethernet_seen bytes vips else packet_seen bytes vips
