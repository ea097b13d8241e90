-- A whole capture of either form.
use Rattle.std.specs.Prelude.{◌≡◌, ℕ, ◌==◌, false, nat_lt, if◌then◌else◌, Bool, List, [], length, take, drop, Option, Some, None, Result, Ok, Err}
use Rattle.byteorder.specs.Endian.{big_number}
use Rattle.sr_base.specs.declared.packet.Packet.{Packet}
use Rattle.sr_frame.specs.declared.skip.Skip.{Skip}
use Rattle.sr_pcap.specs.declared.begin_refusal.BeginRefusal.{BeginRefusal}
use Rattle.sr_pcap.specs.declared.begin_refusal.BeginRefusal.TheVariants as begin
use Rattle.sr_pcap.specs.declared.format.Format.{Format}
use Rattle.sr_pcap.specs.Format.{header_of}
use Rattle.sr_pcapng.specs.Next.{front_place}
use Rattle.sr_capture.specs.declared.capture_refusal.CaptureRefusal.{CaptureRefusal}
use Rattle.sr_capture.specs.declared.capture_refusal.CaptureRefusal.TheVariants.{TooMany}
use Rattle.sr_capture.specs.declared.record.Record.{Record}
use Rattle.sr_capture.specs.declared.record.Record.TheVariants.{Whole, Over, Failed}
use Rattle.sr_capture.specs.declared.captured.Captured.{Captured}
use Rattle.sr_capture.specs.Packets.{kept_in, skips_in}
use Rattle.sr_capture.specs.Records.{Place, Classic, Ng, Records, records_from}

-- the first four bytes are those of a pcapng capture
unfoldable pub is_pcapng : List ℕ → Bool
is_pcapng bytes = if nat_lt (length bytes) 4 then false else (big_number 4 (take 4 bytes) == 0x0a0d0d0a)

-- where the records begin, and the bytes from there on
pub record Start : Type 0 where
  pub place : Place
  pub rest : List ℕ

-- behind the header of a classic capture
abbrev pub behind_header : Result Format BeginRefusal → List ℕ → Result Start BeginRefusal
behind_header (Ok format) bytes = Ok (record { place = Classic format 24; rest = drop 24 bytes })
behind_header (Err why) bytes = Err why

-- A pcapng capture has no header: its first block is a record like any other.
unfoldable pub begin_of : List ℕ → Result Start BeginRefusal
begin_of bytes = if is_pcapng bytes then Ok (record { place = Ng front_place; rest = bytes }) else behind_header (header_of bytes) bytes

-- how many whole records a capture has at most
abbrev pub most_records : ℕ
most_records = 4194304

abbrev pub records_after : Result Start BeginRefusal → Result Records BeginRefusal
records_after (Ok start) = Ok (records_from most_records start.place start.rest)
records_after (Err why) = Err why

-- the records of a capture, or why its header is refused
unfoldable pub capture_of : List ℕ → Result Records BeginRefusal
capture_of bytes = records_after (begin_of bytes)

-- What was kept is what the records say; where no record was refused, the source has no byte left.
pub record Keeps {T : Type 0} (kept : Packet → ℕ → T) (vips : List (ℕ × ℕ)) (records : Records) (left : Option (List ℕ)) (captured : Captured T) : Type 0 where
  pub skips : captured.skips.items ≡ skips_in vips records.frames
  pub packets : captured.packets.items ≡ kept_in kept vips records.frames
  pub ending : captured.ending ≡ records.ending
  pub all : captured.ending ≡ None → left ≡ Some []

-- the capture has as many records as it may have, and this comes then
abbrev pub EndsWith : Result (Option CaptureRefusal) BeginRefusal → Record → Type 0
EndsWith result (Whole ms link offset) = result ≡ Ok (Some (TooMany offset))
EndsWith result (Over ending) = result ≡ Ok ending
EndsWith result Failed = result ≡ Err begin.ReadFault

-- what reading these records gives
abbrev pub ReadsOn : {T : Type 0} → (Packet → ℕ → T) → Result (Captured T) BeginRefusal → List (ℕ × ℕ) → Records → Option (List ℕ) → Type 0
ReadsOn kept (Ok captured) vips records left = Keeps kept vips records left captured
ReadsOn kept (Err begin.ReadFault) vips records left = Unit {0}
ReadsOn kept (Err begin.Memory) vips records left = Unit {0}
ReadsOn kept (Err why) vips records left = ⊥

-- What reading a capture of these bytes gives: a refusal is that of its header.
abbrev pub Reads : {T : Type 0} → (Packet → ℕ → T) → Result (Captured T) BeginRefusal → List (ℕ × ℕ) → List ℕ → Option (List ℕ) → Type 0
Reads kept (Ok captured) vips bytes left = (records : Records) × (capture_of bytes ≡ Ok records) × Keeps kept vips records left captured
Reads kept (Err begin.ReadFault) vips bytes left = Unit {0}
Reads kept (Err begin.Memory) vips bytes left = Unit {0}
Reads kept (Err why) vips bytes left = capture_of bytes ≡ Err why
