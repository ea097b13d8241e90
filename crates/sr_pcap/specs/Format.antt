-- The headers of a classic capture, by their fields: the capture's (magic, major, minor, zone, significant figures, snap length, link
-- type) and a record's (seconds, fraction, captured length, original length).
use Rattle.std.specs.Prelude.{◌≡◌, ◌⊎◌, ℕ, ◌+◌, ◌*◌, ◌/◌, ◌<◌, ◌≤◌, ◌%◌, ◌^◌, ◌==◌, ◌||◌, not, nat_lt, if◌then◌else◌, List, length, take, drop, Option, Some, None, Result, Ok, Err}
use Rattle.sr_pcap.specs.declared.begin_refusal.BeginRefusal.{BeginRefusal}
use Rattle.sr_pcap.specs.declared.begin_refusal.BeginRefusal.TheVariants.{Truncated, ReadFault, Magic, Major, LinkType, Memory}
use Rattle.sr_pcap.specs.declared.endian.Endian.{Endian}
use Rattle.sr_pcap.specs.declared.endian.Endian.TheVariants.{Big, Little}
use Rattle.sr_pcap.specs.declared.format.Format.{Format}
use Rattle.sr_pcap.specs.declared.resolution.Resolution.{Resolution}
use Rattle.sr_pcap.specs.Endian.{number}
use Rattle.sr_pcap.specs.Resolution.{resolution_of, per_millisecond}

-- with a byte order, where there is a resolution, and else the other answer
abbrev pub in_order : Endian → Option Resolution → Option (Endian × Resolution) → Option (Endian × Resolution)
in_order endian None other = other
in_order endian (Some resolution) other = Some (endian, resolution)

-- the byte order in which the magic stands for a resolution, and that resolution
abbrev pub magic_of : List ℕ → Option (Endian × Resolution)
magic_of header =
    in_order Big (resolution_of (number Big 4 header)) (in_order Little (resolution_of (number Little 4 header)) None)

abbrev pub major_of : Endian → List ℕ → ℕ
major_of endian header = number endian 2 (drop 4 header)

-- the low 16 bits alone
abbrev pub link_of : Endian → List ℕ → ℕ
link_of endian header = number endian 4 (drop 20 header) % 2 ^ 16

-- the format of a header with this magic
unfoldable pub format_in : Endian → Resolution → List ℕ → Result Format BeginRefusal
format_in endian resolution header =
    if not (major_of endian header == 2) then Err Major
    else (if not ((link_of endian header == 1) || (link_of endian header == 101)) then Err LinkType
    else Ok (record { endian = endian; resolution = resolution; link = link_of endian header }))

-- the format of a header with this magic, if it is one
abbrev pub format_with : Option (Endian × Resolution) → List ℕ → Result Format BeginRefusal
format_with None header = Err Magic
format_with (Some magic) header = format_in magic.0 magic.1 header

-- the format that a header of 24 bytes spells
unfoldable pub format_of : List ℕ → Result Format BeginRefusal
format_of header = format_with (magic_of header) header

-- what judging a whole header comes to
abbrev pub IsJudged : Result Format BeginRefusal → Type 0
IsJudged (Ok format) = (format.link ≡ 1) ⊎ (format.link ≡ 101)
IsJudged (Err (Truncated offset)) = ⊥
IsJudged (Err ReadFault) = ⊥
IsJudged (Err Magic) = Unit {0}
IsJudged (Err Major) = Unit {0}
IsJudged (Err LinkType) = Unit {0}
IsJudged (Err Memory) = ⊥

-- what judging so many bytes comes to
abbrev pub IsJudgedIn : Result Format BeginRefusal → ℕ → Type 0
IsJudgedIn (Ok format) size = (24 ≤ size) × ((format.link ≡ 1) ⊎ (format.link ≡ 101))
IsJudgedIn (Err (Truncated offset)) size = (offset ≡ 0) × (size < 24)
IsJudgedIn (Err ReadFault) size = ⊥
IsJudgedIn (Err Magic) size = 24 ≤ size
IsJudgedIn (Err Major) size = 24 ≤ size
IsJudgedIn (Err LinkType) size = 24 ≤ size
IsJudgedIn (Err Memory) size = ⊥

-- the format of a capture, which begins with a header
unfoldable pub header_of : List ℕ → Result Format BeginRefusal
header_of bytes = if nat_lt (length bytes) 24 then Err (Truncated 0) else format_of (take 24 bytes)

-- the most captured bytes of a record
abbrev pub most_captured : ℕ
most_captured = 262144

-- when a record was captured, in whole milliseconds
abbrev pub milliseconds : Format → List ℕ → ℕ
milliseconds format header =
    number format.endian 4 header * 1000 + number format.endian 4 (drop 4 header) / per_millisecond format.resolution

abbrev pub captured_length : Format → List ℕ → ℕ
captured_length format header = number format.endian 4 (drop 8 header)
