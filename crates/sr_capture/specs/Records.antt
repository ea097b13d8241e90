-- The records of a capture of either form, read off its bytes.
use Rattle.std.specs.Prelude.{ℕ, zero, suc, List, [], ◌∷◌, Option, Some, None, Result, Ok, Err}
use Rattle.sr_pcap.specs.declared.format.Format.{Format}
use Rattle.sr_pcap.specs.declared.next.Next.{Next}
use Rattle.sr_pcap.specs.declared.next.Next.TheVariants as classic
use Rattle.sr_pcap.specs.Next.{next_at, size_at, frame_at, rest_at}
use Rattle.sr_pcap.specs.Reader.{offset_after}
use Rattle.sr_pcapng.specs.declared.stop.Stop.{Stop}
use Rattle.sr_pcapng.specs.declared.stop.Stop.TheVariants as stop
use Rattle.sr_pcapng.specs.Next.{Arrival as NgArrival, Place as NgPlace, next_from}
use Rattle.sr_capture.specs.declared.capture_refusal.CaptureRefusal.{CaptureRefusal}
use Rattle.sr_capture.specs.declared.capture_refusal.CaptureRefusal.TheVariants.{Cut, TooLong, TooMany, Block, Magic, Major}

-- a whole record: when it was captured, in whole milliseconds, the link type of its frame, and its captured bytes
pub record Frame : Type 0 where
  pub ms : ℕ
  pub link : ℕ
  pub bytes : List ℕ

-- where a capture is read on: the format of a classic one and the offset of its next record, or a place of a pcapng one
pub data Place : Type 0 where
  Classic : Format → ℕ → Place
  Ng : NgPlace → Place

-- the next record, where it begins, and the place and the bytes after it
pub record Arrival : Type 0 where
  pub frame : Frame
  pub offset : ℕ
  pub place : Place
  pub rest : List ℕ

-- What comes next in a classic capture: a record, or why none does; a capture that ends there isn't refused. (No definition answers a fault.)
abbrev pub classic_next : Format → ℕ → List ℕ → Next → Result Arrival (Option CaptureRefusal)
classic_next format offset bytes (classic.Whole ms at) = Ok (record {
  frame = record { ms = ms; link = format.link; bytes = frame_at format bytes };
  offset = at;
  place = Classic format (offset_after offset (size_at format bytes));
  rest = rest_at format bytes;
})
classic_next format offset bytes classic.End = Err None
classic_next format offset bytes (classic.Truncated at) = Err (Some (Cut at))
classic_next format offset bytes classic.ReadFault = Err None
classic_next format offset bytes (classic.TooLong at size) = Err (Some (TooLong at))

-- why no packet comes in a pcapng capture
abbrev pub refusal_by : Stop → Option CaptureRefusal
refusal_by stop.End = None
refusal_by (stop.Truncated offset) = Some (Cut offset)
refusal_by stop.ReadFault = None
refusal_by (stop.TooLong offset size) = Some (TooLong offset)
refusal_by (stop.Block offset) = Some (Block offset)
refusal_by stop.Magic = Some Magic
refusal_by stop.Major = Some Major
refusal_by (stop.TooMany offset) = Some (TooMany offset)

-- what comes next in a pcapng capture
abbrev pub ng_next : Result NgArrival Stop → Result Arrival (Option CaptureRefusal)
ng_next (Ok a) = Ok (record {
  frame = record { ms = a.packet.head.ms; link = a.packet.head.link; bytes = a.packet.bytes };
  offset = a.offset;
  place = Ng a.place;
  rest = a.rest;
})
ng_next (Err why) = Err (refusal_by why)

-- the record that comes next at a place, where these bytes are left; or why none comes
unfoldable pub next_record : Place → List ℕ → Result Arrival (Option CaptureRefusal)
next_record (Classic format offset) bytes = classic_next format offset bytes (next_at format offset bytes)
next_record (Ng place) bytes = ng_next (next_from place.room place.offset place.section bytes)

-- whole records in order, and why no further one comes, if the capture is refused
pub record Records : Type 0 where
  pub frames : List Frame
  pub ending : Option CaptureRefusal

abbrev pub ended : Option CaptureRefusal → Records
ended ending = record { frames = []; ending = ending }

abbrev pub with_frame : Frame → Records → Records
with_frame frame rest = record { frames = frame ∷ rest.frames; ending = rest.ending }

-- the records of the bytes that are left at a place, up to so many of them; one more is too many
unfoldable pub records_from : ℕ → Place → List ℕ → Records
records_from zero place bytes = elim (next_record place bytes) [
  | Ok a ↦ ended (Some (TooMany a.offset))
  | Err why ↦ ended why
]
records_from (suc room) place bytes = elim (next_record place bytes) [
  | Ok a ↦ with_frame a.frame (records_from room a.place a.rest)
  | Err why ↦ ended why
]
