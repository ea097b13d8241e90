-- A packet's key has the number of one of the virtual addresses; with one virtual address, 0.
use Rattle.std.proofs.Common.{◌≡◌, ℕ, zero, suc, ◌+◌, ◌<◌, ◌≤◌, Bool, true, false, cond, List, [], ◌∷◌, ◌++◌, length, Option, Some, None, drop, arith}
use Rattle.std.specs.List.{AllByRecursion}
use Rattle.sr_base.specs.declared.packet.Packet.{Packet}
use Rattle.sr_frame.specs.declared.seen.Seen.{Seen}
use Rattle.sr_frame.specs.declared.seen.Seen.TheVariants as seen_as
use Rattle.sr_frame.specs.declared.skip.Skip.{Skip}
use Rattle.sr_frame.specs.Seen.{skip_if}
use Rattle.sr_frame.specs.Tcp.{segment_seen, addressed, destination_port}
use Rattle.sr_frame.specs.Vip.{vip_number}
use Rattle.sr_frame.specs.Ipv4.{packet_seen, header_seen, payload_seen}
use Rattle.sr_frame.specs.Ethernet.{ethernet_seen, tagged_seen, untagged_seen}
use Rattle.sr_frame.specs.Frame.{seen}
use Rattle.sr_frame.specs.declared.skip.Skip.TheVariants.{NotIpv4}
use Rattle.sr_capture.specs.declared.clock.Clock.{Clock}
use Rattle.sr_capture.specs.Clock.{seen_at, time_of}
use Rattle.sr_capture.specs.Packets.{kept_from, kept_of, seen_in}
use Rattle.sr_capture.specs.Records.{Frame}

-- what is seen is no packet, or one whose virtual address has a number below this
unfoldable pub IsWithin : ℕ → Seen → Type 0
IsWithin n (seen_as.Packet key kind) = key.vip < n
IsWithin n (seen_as.Skipped why) = Unit {0}

-- all of these packets go to virtual address 0
abbrev pub AllFirstVip : List Packet → Type 0
AllFirstVip packets = AllByRecursion (λ packet. packet.key.vip ≡ 0) packets

-- a number is below this, if there is one
abbrev Below : ℕ → Option ℕ → Type 0
Below n None = Unit {0}
Below n (Some vip) = vip < n

either_below : (n : ℕ) (test : Bool) (vip : ℕ) (next : Option ℕ) → vip < n → Below n next → Below n (cond test (Some vip) next)
either_below n true vip next h more = h
either_below n false vip next h more = more

number_below : (vips : List (ℕ × ℕ)) (from address port n : ℕ) → from + length vips ≤ n → Below n (vip_number from address port vips)
number_below [] from address port n h = tt
number_below ((ip, at) ∷ vips) from address port n h =
    either_below n _ from (vip_number (from + 1) address port vips) (omega (arith, h)) (number_below vips (from + 1) address port n (omega (arith, h)))

module _ (vips : List (ℕ × ℕ)) where
  skipped_or : (applies : Bool) (why : Skip) (next : Seen) → IsWithin (length vips) next → IsWithin (length vips) (skip_if applies why next)
  unfolding IsWithin
  skipped_or true why next h = tt
  skipped_or false why next h = h

  addressed_within : (vip : Option ℕ) (source : ℕ) (segment : List ℕ) → Below (length vips) vip → IsWithin (length vips) (addressed vip source segment)
  unfolding IsWithin
  addressed_within None source segment h = tt
  addressed_within (Some vip) source segment h = h

  segment_within : (source destination : ℕ) (segment : List ℕ) → IsWithin (length vips) (segment_seen source destination segment vips)
  unfolding segment_seen
  segment_within source destination segment =
      skipped_or _ _ _
      (addressed_within _ source segment (number_below vips 0 destination (destination_port segment) (length vips) (omega (arith))))

  payload_within : (packet payload : List ℕ) → IsWithin (length vips) (payload_seen packet payload vips)
  unfolding payload_seen
  payload_within packet payload = search (skipped_or, segment_within)

  header_within : (packet : List ℕ) → IsWithin (length vips) (header_seen packet vips)
  unfolding header_seen
  header_within packet = search (skipped_or, payload_within)

  packet_within : (packet : List ℕ) → IsWithin (length vips) (packet_seen packet vips)
  unfolding packet_seen
  packet_within packet = search (skipped_or, header_within)

  untagged_within : (bytes : List ℕ) → IsWithin (length vips) (untagged_seen bytes vips)
  unfolding untagged_seen
  untagged_within bytes = search (skipped_or, packet_within)

  either_within : (choice : Bool) (a b : Seen) → IsWithin (length vips) a → IsWithin (length vips) b → IsWithin (length vips) (cond choice a b)
  either_within true a b first second = first
  either_within false a b first second = second

  tagged_within : (tags : ℕ) (bytes : List ℕ) → IsWithin (length vips) (tagged_seen tags bytes vips)
  unfolding tagged_seen
  tagged_within zero bytes = untagged_within bytes
  tagged_within (suc tags) bytes =
      let deeper : IsWithin (length vips) (tagged_seen tags (drop 4 bytes) vips) = tagged_within tags (drop 4 bytes) in
      search (either_within, skipped_or, untagged_within, deeper)

  ethernet_within : (bytes : List ℕ) → IsWithin (length vips) (ethernet_seen bytes vips)
  unfolding ethernet_seen
  ethernet_within bytes = search (skipped_or, tagged_within)

  seen_within : (link : ℕ) (bytes : List ℕ) → IsWithin (length vips) (seen link bytes vips)
  seen_within link bytes = search (either_within, ethernet_within, packet_within)

  unread_within : IsWithin (length vips) (seen_as.Skipped NotIpv4)
  unfolding IsWithin
  unread_within = tt

  any_within : (link : ℕ) (bytes : List ℕ) → IsWithin (length vips) (seen_in link bytes vips)
  any_within link bytes = either_within _ _ _ (seen_within link bytes) unread_within

  -- what is kept of them: whatever P is, it holds of each if it holds of one with such a number
  module _ {T : Type 0} (kept : Packet → ℕ → T) (P : T → Type 0) (one : (packet : Packet) (ms : ℕ) → packet.key.vip < length vips → P (kept packet ms)) where
    with_packet : (number ms : ℕ) (s : Seen) (others : List T) → IsWithin (length vips) s → AllByRecursion P others
        → AllByRecursion P (kept_of kept number ms s ++ others)
    unfolding IsWithin
    with_packet number ms (seen_as.Packet key kind) others h more = (one (record { number = number; key = key; kind = kind }) ms h, more)
    with_packet number ms (seen_as.Skipped why) others h more = more

    pub packets_within : (clock : Clock) (number : ℕ) (frames : List Frame) → AllByRecursion P (kept_from kept vips clock number frames)
    packets_within clock number [] = tt
    packets_within clock number (frame ∷ frames) =
        with_packet number (time_of (seen_at clock frame.ms)) (seen_in frame.link frame.bytes vips) (kept_from kept vips (seen_at clock frame.ms) (number + 1) frames)
        (any_within frame.link frame.bytes) (packets_within (seen_at clock frame.ms) (number + 1) frames)

pub packets_first : (vip : ℕ × ℕ) (clock : Clock) (number : ℕ) (frames : List Frame) → AllFirstVip (kept_from (λ packet time. packet) (vip ∷ []) clock number frames)
packets_first vip clock number frames =
    packets_within (vip ∷ []) (λ packet time. packet) (λ packet. packet.key.vip ≡ 0) (λ packet ms h. omega (arith, h)) clock number frames
