-- What a reader knows, and what its calls do.
use Rattle.std.specs.Prelude.{◌≡◌, ℕ, ◌+◌, ◌-◌, ◌*◌, ◌^◌, ◌<◌, ◌≤◌, min, List, [], length, drop, Option, Some, None, Result, Ok, Err}
use Rattle.sr_io.specs.Window.{WindowView, Pending}
use Rattle.sr_pcap.specs.declared.begin_refusal.BeginRefusal.{BeginRefusal}
use Rattle.sr_pcap.specs.declared.begin_refusal.BeginRefusal.TheVariants as begin
use Rattle.sr_pcap.specs.declared.format.Format.{Format}
use Rattle.sr_pcap.specs.declared.next.Next.{Next}
use Rattle.sr_pcap.specs.declared.next.Next.TheVariants.{Whole, End, Truncated, ReadFault, TooLong}
use Rattle.sr_pcap.specs.declared.record_header.RecordHeader.{RecordHeader}
use Rattle.sr_pcap.specs.Format.{header_of, most_captured}
use Rattle.sr_pcap.specs.Next.{next_at, size_at, frame_at, rest_at}

-- the bytes of the longest record: its header and the most captured bytes
abbrev pub longest_record : ℕ
longest_record = 16 + most_captured

-- the room of a reader: two of the longest records, since the last one stays while the next is read
abbrev pub reader_room : ℕ
reader_room = 2 * longest_record

-- a reader as the format of its capture, where the next record begins, the captured bytes of the last whole one, the window with the bytes
-- that aren't used yet, and the answer that it gives from now on, if there is one
pub record ReaderView : Type 0 where
  pub format : Format
  pub offset : ℕ
  pub bytes : List ℕ
  pub window : WindowView
  pub ended : Option Next

-- the offset after a record of this many captured bytes; an offset stands still at the end of 64 bits
abbrev pub offset_after : ℕ → ℕ → ℕ
offset_after offset size = min (offset + (16 + size)) (2 ^ 64 - 1)

-- the reader that has read a whole record
abbrev pub with_record : ReaderView → List ℕ → WindowView → ReaderView
with_record reader bytes window =
    record { format = reader.format; offset = offset_after reader.offset (length bytes); bytes = bytes; window = window; ended = None }

-- the reader that has read on
abbrev pub with_window : ReaderView → WindowView → ReaderView
with_window reader window = record reader { window = window }

-- the reader that answers this from now on
abbrev pub ended_by : ReaderView → WindowView → Next → ReaderView
ended_by reader window why = record reader { window = window; ended = Some why }

-- what any source allows: a record of this size was read, or the reader has ended
abbrev pub Steps : Next → ReaderView → ReaderView → Type 0
Steps (Whole ms offset) old new = (offset ≡ old.offset) × (length new.bytes ≤ most_captured) × (new ≡ with_record old new.bytes new.window)
Steps End old new = new ≡ ended_by old new.window End
Steps (Truncated offset) old new = (offset ≡ old.offset) × (new ≡ ended_by old new.window (Truncated offset))
Steps ReadFault old new = new ≡ ended_by old new.window ReadFault
Steps (TooLong offset size) old new = (offset ≡ old.offset) × (most_captured < size) × (new ≡ ended_by old new.window (TooLong offset size))

-- Of the record that comes next in these bytes, where the first of them stands at this offset, the captured bytes are there, and the bytes
-- after it are still to be read.
pub record TakesRecord (ms at : ℕ) (format : Format) (offset : ℕ) (xs : List ℕ) (reader : ReaderView) (left : Option (List ℕ)) : Type 0 where
  pub next : next_at format offset xs ≡ Whole ms at
  pub frame : reader.bytes ≡ frame_at format xs
  pub size : length reader.bytes ≡ size_at format xs
  pub within : 16 + length reader.bytes ≤ length xs
  pub rest : Pending reader.window left (rest_at format xs)

-- No whole record comes next in these bytes, for this reason. Where they end too early the source has no byte left.
abbrev pub Stops : Next → Format → ℕ → List ℕ → Option (List ℕ) → Type 0
Stops (Whole ms at) format offset xs left = ⊥
Stops End format offset xs left = (next_at format offset xs ≡ End) × (left ≡ Some [])
Stops (Truncated at) format offset xs left = (next_at format offset xs ≡ Truncated at) × (left ≡ Some [])
Stops ReadFault format offset xs left = Unit {0}
Stops (TooLong at size) format offset xs left = next_at format offset xs ≡ TooLong at size

-- The header of the record that comes next in these bytes, which is whole; or why none is.
abbrev pub Looks : Result RecordHeader Next → Format → ℕ → List ℕ → Option (List ℕ) → Type 0
Looks (Ok header) format offset xs left = (next_at format offset xs ≡ Whole header.ms offset) × (header.size ≡ size_at format xs)
Looks (Err why) format offset xs left = Stops why format offset xs left

-- what any source allows of it: the window has the whole record; or the reason's numbers are right
abbrev pub Found : Result RecordHeader Next → ℕ → WindowView → Type 0
Found (Ok header) offset window = (16 + header.size ≤ length window.unread) × (header.size ≤ most_captured)
Found (Err (Whole ms at)) offset window = ⊥
Found (Err End) offset window = Unit {0}
Found (Err (Truncated at)) offset window = at ≡ offset
Found (Err ReadFault) offset window = Unit {0}
Found (Err (TooLong at size)) offset window = (at ≡ offset) × (most_captured < size)

-- What comes next in these bytes was answered, where the first of them stands at this offset. Where it is no whole record they are still to be
-- read.
abbrev pub Answers : Next → Format → ℕ → List ℕ → ReaderView → Option (List ℕ) → Type 0
Answers (Whole ms at) format offset xs reader left = TakesRecord ms at format offset xs reader left
Answers End format offset xs reader left = Stops End format offset xs left × Pending reader.window left xs
Answers (Truncated at) format offset xs reader left = Stops (Truncated at) format offset xs left × Pending reader.window left xs
Answers ReadFault format offset xs reader left = Pending reader.window left xs
Answers (TooLong at size) format offset xs reader left = Stops (TooLong at size) format offset xs left × Pending reader.window left xs

-- The header that these bytes begin with was judged, and where it was taken the bytes after it are still to be read.
abbrev pub Begins : Result ReaderView BeginRefusal → List ℕ → Option (List ℕ) → Type 0
Begins (Ok reader) xs left = (header_of xs ≡ Ok reader.format) × Pending reader.window left (drop 24 xs)
Begins (Err (begin.Truncated offset)) xs left = (header_of xs ≡ Err (begin.Truncated offset)) × (left ≡ Some [])
Begins (Err begin.ReadFault) xs left = Unit {0}
Begins (Err begin.Magic) xs left = header_of xs ≡ Err begin.Magic
Begins (Err begin.Major) xs left = header_of xs ≡ Err begin.Major
Begins (Err begin.LinkType) xs left = header_of xs ≡ Err begin.LinkType
Begins (Err begin.Memory) xs left = Unit {0}
