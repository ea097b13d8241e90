-- A whole block, read off the bytes that it begins.
use Rattle.std.specs.Prelude.{ℕ, ◌-◌, ◌==◌, nat_lt, if◌then◌else◌, List, [], ◌∷◌, ◌++◌, length, take, drop, option_map, Option, Some, None, Result, Ok, Err}
use Rattle.std.specs.Option.{unwrap_or}
use Rattle.sr_pcapng.specs.declared.endian.Endian.{Endian}
use Rattle.sr_pcapng.specs.declared.front.Front.{Front}
use Rattle.sr_pcapng.specs.declared.front.Front.TheVariants as front
use Rattle.sr_pcapng.specs.declared.interface.Interface.{Interface}
use Rattle.sr_pcapng.specs.declared.stop.Stop.{Stop}
use Rattle.sr_pcapng.specs.declared.stop.Stop.TheVariants.{Truncated, Block}
use Rattle.sr_pcapng.specs.declared.packet_head.PacketHead.{PacketHead}
use Rattle.sr_pcapng.specs.Endian.{number}
use Rattle.sr_pcapng.specs.Front.{SectionView, endian_of, front_of, header_of, packet_of}
use Rattle.sr_pcapng.specs.Options.{Walked, walk}

-- a packet: what its fields say, and its captured bytes
pub record Packet : Type 0 where
  pub head : PacketHead
  pub bytes : List ℕ

-- a whole block: the packet that it carries, if it carries one, the section after it, how many bytes it has, and the bytes that follow it
pub record Whole : Type 0 where
  pub packet : Option Packet
  pub section : SectionView
  pub size : ℕ
  pub rest : List ℕ

-- a block that carries no packet
abbrev pub no_packet : SectionView → ℕ → List ℕ → Whole
no_packet section size rest = record { packet = None; section = section; size = size; rest = rest }

-- a block that may carry one, whose captured bytes are at the front of a buffer
abbrev pub maybe_packet : SectionView → List ℕ → Option PacketHead → ℕ → List ℕ → Whole
maybe_packet section buffer head size rest = record {
  packet = option_map (λ h. record { head = h; bytes = take h.captured buffer }) head;
  section = section;
  size = size;
  rest = rest;
}

-- ---- the end of a block

-- what is wrong with the last length of a block
unfoldable pub last_fault : Endian → ℕ → ℕ → List ℕ → Option Stop
last_fault endian offset size bytes =
    if nat_lt (length bytes) 4 then Some (Truncated offset)
    else (if number endian 4 bytes == size then None else Some (Block offset))

abbrev pub unless : {A : Type 0} → Option Stop → A → Result A Stop
unless None value = Ok value
unless (Some why) value = Err why

-- the bytes after a block in which so many bytes are passed over before its last length
unfoldable pub closed : Endian → ℕ → ℕ → ℕ → List ℕ → Result (List ℕ) Stop
closed endian offset size more bytes = unless (last_fault endian offset size (take 4 (drop more bytes))) (drop 4 (drop more bytes))

abbrev pub whole : Option Packet → SectionView → ℕ → Result (List ℕ) Stop → Result Whole Stop
whole packet section size (Ok rest) = Ok (record { packet = packet; section = section; size = size; rest = rest })
whole packet section size (Err why) = Err why

-- ---- the blocks by their types, from the byte after the length on

-- a section header begins a section without interfaces
abbrev pub section_with : ℕ → Result (Endian × ℕ) Stop → List ℕ → Result Whole Stop
section_with offset (Err why) bytes = Err why
section_with offset (Ok h) bytes =
    whole None (record { endian = Some h.0; interfaces = [] }) h.1 (closed h.0 offset h.1 (h.1 - 28) bytes)

unfoldable pub section_block : ℕ → List ℕ → List ℕ → Result Whole Stop
section_block offset size bytes = section_with offset (header_of offset size (take 16 bytes)) (drop 16 bytes)

-- an interface description adds an interface to its section
abbrev pub with_interface : SectionView → Interface → SectionView
with_interface section interface = record section { interfaces = section.interfaces ++ interface ∷ [] }

abbrev pub interface_with : SectionView → ℕ → ℕ → ℕ → Result Walked Stop → Result Whole Stop
interface_with section offset size link (Err why) = Err why
interface_with section offset size link (Ok walked) =
    whole None (with_interface section (record { link = link; resolution = unwrap_or walked.resolution 6 })) size
    (closed (endian_of section) offset size walked.more walked.rest)

unfoldable pub interface_block : SectionView → ℕ → ℕ → List ℕ → Result Whole Stop
interface_block section offset size bytes =
    if nat_lt (length bytes) 8 then Err (Truncated offset)
    else interface_with section offset size (number (endian_of section) 2 (take 8 bytes))
    (walk (size - 20) (endian_of section) offset (size - 20) None (drop 8 bytes))

-- an enhanced packet block carries a packet
abbrev pub packet_with_head : SectionView → ℕ → ℕ → Result PacketHead Stop → List ℕ → Result Whole Stop
packet_with_head section offset size (Err why) bytes = Err why
packet_with_head section offset size (Ok head) bytes =
    if nat_lt (length bytes) head.captured then Err (Truncated offset)
    else whole (Some (record { head = head; bytes = take head.captured bytes })) section size
    (closed (endian_of section) offset size (size - 32 - head.captured) (drop head.captured bytes))

unfoldable pub packet_block : SectionView → ℕ → ℕ → List ℕ → Result Whole Stop
packet_block section offset size bytes =
    packet_with_head section offset size (packet_of (endian_of section) section.interfaces offset size (take 20 bytes)) (drop 20 bytes)

-- any other block is passed over
unfoldable pub other_block : SectionView → ℕ → ℕ → List ℕ → Result Whole Stop
other_block section offset size bytes = whole None section size (closed (endian_of section) offset size (size - 12) bytes)

-- ---- any block

abbrev pub block_with : SectionView → ℕ → Result Front Stop → List ℕ → List ℕ → Result Whole Stop
block_with section offset (Err why) first bytes = Err why
block_with section offset (Ok front.Section) first bytes = section_block offset (drop 4 first) bytes
block_with section offset (Ok (front.Interface size)) first bytes = interface_block section offset size bytes
block_with section offset (Ok (front.Packet size)) first bytes = packet_block section offset size bytes
block_with section offset (Ok (front.Other size)) first bytes = other_block section offset size bytes

-- the block that these bytes begin with, where the first of them stands at this offset; or the first check that fails
unfoldable pub block_at : SectionView → ℕ → List ℕ → Result Whole Stop
block_at section offset bytes = block_with section offset (front_of section offset (take 8 bytes)) (take 8 bytes) (drop 8 bytes)
