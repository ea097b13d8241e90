-- The fields at the front of a block, each check as soon as its bytes are there. A front has fewer bytes than are wanted only where the input
-- ends.
use Rattle.std.specs.Prelude.{ℕ, ◌<◌, ◌≤◌, ◌+◌, ◌*◌, ◌/◌, ◌%◌, ◌^◌, ◌==◌, ◌||◌, Bool, not, nat_lt, if◌then◌else◌, List, length, drop, Option, Some, None, Result, Ok, Err}
use Rattle.std.specs.Option.{unwrap_or}
use Rattle.std.specs.List.{slice_get}
use Rattle.sr_pcapng.specs.declared.endian.Endian.{Endian}
use Rattle.sr_pcapng.specs.declared.endian.Endian.TheVariants.{Big, Little}
use Rattle.sr_pcapng.specs.declared.front.Front.{Front}
use Rattle.sr_pcapng.specs.declared.front.Front.TheVariants as front
use Rattle.sr_pcapng.specs.declared.interface.Interface.{Interface}
use Rattle.sr_pcapng.specs.declared.stop.Stop.{Stop}
use Rattle.sr_pcapng.specs.declared.stop.Stop.TheVariants.{Truncated, TooLong, Block, Magic, Major, TooMany}
use Rattle.sr_pcapng.specs.declared.packet_head.PacketHead.{PacketHead}
use Rattle.sr_pcapng.specs.Endian.{number}
use Rattle.sr_pcapng.specs.Interface.{milliseconds}

-- the byte order of a section, once there is one, and its interfaces in the order of their descriptions
pub record SectionView : Type 0 where
  pub endian : Option Endian
  pub interfaces : List Interface

-- the byte order; before a section no number is read
abbrev pub endian_of : SectionView → Endian
endian_of section = unwrap_or section.endian Big

-- the most captured bytes of a packet
abbrev pub most_captured : ℕ
most_captured = 262144

-- the most interfaces of a section
abbrev pub most_interfaces : ℕ
most_interfaces = 1024

-- a number of bytes, rounded up to a multiple of 4
abbrev pub padded : ℕ → ℕ
padded n = (n + 3) / 4 * 4

-- a length that no block of at least so many bytes has
abbrev pub is_bad : ℕ → ℕ → Bool
is_bad least size = not (size % 4 == 0) || nat_lt size least

-- ---- type and length

-- what a block of this type is, by its length
unfoldable pub front_sized : ℕ → ℕ → ℕ → ℕ → Result Front Stop
front_sized interfaces offset type size =
    if type == 1 then (if is_bad 20 size then Err (Block offset)
    else (if nat_lt interfaces most_interfaces then Ok (front.Interface size) else Err (TooMany offset)))
    else (if type == 6 then (if is_bad 32 size then Err (Block offset) else Ok (front.Packet size))
    else (if is_bad 12 size then Err (Block offset) else Ok (front.Other size)))

-- no block has less than the least length of its type
abbrev pub HasSize : Front → Type 0
HasSize front.Section = Unit {0}
HasSize (front.Interface size) = 20 ≤ size
HasSize (front.Packet size) = 32 ≤ size
HasSize (front.Other size) = 12 ≤ size

-- there is room for an interface that is described
abbrev pub HasRoom : Front → ℕ → Type 0
HasRoom front.Section interfaces = Unit {0}
HasRoom (front.Interface size) interfaces = interfaces < most_interfaces
HasRoom (front.Packet size) interfaces = Unit {0}
HasRoom (front.Other size) interfaces = Unit {0}

-- what a block in a section of this byte order is, by its first eight bytes
unfoldable pub front_in : Endian → ℕ → ℕ → List ℕ → Result Front Stop
front_in endian interfaces offset bytes =
    if (number endian 4 bytes == 2) || (number endian 4 bytes == 3) then Err (Block offset)
    else (if nat_lt (length bytes) 8 then Err (Truncated offset)
    else front_sized interfaces offset (number endian 4 bytes) (number endian 4 (drop 4 bytes)))

-- the same where there may be no section yet
abbrev pub front_after : Option Endian → ℕ → ℕ → List ℕ → Result Front Stop
front_after None interfaces offset bytes = Err (Block offset)
front_after (Some endian) interfaces offset bytes = front_in endian interfaces offset bytes

-- what a block is, by its first eight bytes
unfoldable pub front_of : SectionView → ℕ → List ℕ → Result Front Stop
front_of section offset bytes =
    if nat_lt (length bytes) 4 then Err (Truncated offset)
    else (if number Big 4 bytes == 0x0a0d0d0a then (if nat_lt (length bytes) 8 then Err (Truncated offset) else Ok front.Section)
    else front_after section.endian (length section.interfaces) offset bytes)

-- ---- a section header

-- the byte order that a section's magic tells, if it tells one
abbrev pub order_of : List ℕ → Option Endian
order_of bytes =
    if number Big 4 bytes == 0x1a2b3c4d then Some Big
    else (if number Little 4 bytes == 0x1a2b3c4d then Some Little else None)

-- the length and the major version of a section header in this byte order: its length
unfoldable pub header_in : Endian → ℕ → List ℕ → List ℕ → Result (Endian × ℕ) Stop
header_in endian offset size bytes =
    if is_bad 28 (number endian 4 size) then Err (Block offset)
    else (if nat_lt (length bytes) 6 then Err (Truncated offset)
    else (if number endian 2 (drop 4 bytes) == 1 then Ok (endian, number endian 4 size) else Err Major))

abbrev pub header_with : Option Endian → ℕ → List ℕ → List ℕ → Result (Endian × ℕ) Stop
header_with None offset size bytes = Err Magic
header_with (Some endian) offset size bytes = header_in endian offset size bytes

-- the byte order and the length of a section header, by the four bytes of its length and the 16 bytes after them
unfoldable pub header_of : ℕ → List ℕ → List ℕ → Result (Endian × ℕ) Stop
header_of offset size bytes =
    if nat_lt (length bytes) 4 then Err (Truncated offset) else header_with (order_of bytes) offset size bytes

-- ---- an enhanced packet block

-- the time in the two words after the interface
abbrev pub time_of : Endian → List ℕ → ℕ
time_of endian bytes = number endian 4 (drop 4 bytes) * 2 ^ 32 + number endian 4 (drop 8 bytes)

-- a packet of this interface with so many captured bytes
unfoldable pub packet_sized : ℕ → ℕ → ℕ → Interface → ℕ → Result PacketHead Stop
packet_sized offset size captured interface time =
    if nat_lt most_captured captured then Err (TooLong offset captured)
    else (if nat_lt size (32 + padded captured) then Err (Block offset)
    else Ok (record { ms = milliseconds interface.resolution time; link = interface.link; captured = captured }))

abbrev pub packet_with : Endian → ℕ → ℕ → Option Interface → List ℕ → Result PacketHead Stop
packet_with endian offset size None bytes = Err (Block offset)
packet_with endian offset size (Some interface) bytes =
    if nat_lt (length bytes) 16 then Err (Truncated offset)
    else packet_sized offset size (number endian 4 (drop 12 bytes)) interface (time_of endian bytes)

-- the packet of a block of this length, by the 20 bytes after it
unfoldable pub packet_of : Endian → List Interface → ℕ → ℕ → List ℕ → Result PacketHead Stop
packet_of endian interfaces offset size bytes =
    if nat_lt (length bytes) 4 then Err (Truncated offset)
    else packet_with endian offset size (slice_get interfaces (number endian 4 bytes)) bytes
