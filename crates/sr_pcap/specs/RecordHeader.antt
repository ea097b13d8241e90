-- The header of a record.
use Rattle.std.specs.Prelude.{◌≡◌, ℕ, ◌<◌, ◌≤◌, List, length, take, Result, Ok, Err}
use Rattle.sr_pcap.specs.declared.format.Format.{Format}
use Rattle.sr_pcap.specs.declared.next.Next.{Next}
use Rattle.sr_pcap.specs.declared.next.Next.TheVariants.{Whole, End, Truncated, ReadFault, TooLong}
use Rattle.sr_pcap.specs.declared.record_header.RecordHeader.{RecordHeader}
use Rattle.sr_pcap.specs.Format.{milliseconds, captured_length, most_captured}

-- what the header of 16 bytes says that the bytes begin with
pub record Spells (header : RecordHeader) (format : Format) (bytes : List ℕ) : Type 0 where
  pub whole : 16 ≤ length bytes
  pub ms : header.ms ≡ milliseconds format (take 16 bytes)
  pub size : header.size ≡ captured_length format (take 16 bytes)
  pub few : header.size ≤ most_captured

-- The bytes begin with the header of a record that isn't too long, or this is why they don't. The first of them stands at this offset.
abbrev pub HeaderOf : Result RecordHeader Next → Format → ℕ → List ℕ → Type 0
HeaderOf (Ok header) format offset bytes = Spells header format bytes
HeaderOf (Err (Whole ms at)) format offset bytes = ⊥
HeaderOf (Err End) format offset bytes = length bytes ≡ 0
HeaderOf (Err (Truncated at)) format offset bytes = (at ≡ offset) × (0 < length bytes) × (length bytes < 16)
HeaderOf (Err ReadFault) format offset bytes = ⊥
HeaderOf (Err (TooLong at size)) format offset bytes =
    (at ≡ offset) × (16 ≤ length bytes) × (size ≡ captured_length format (take 16 bytes)) × (most_captured < size)
