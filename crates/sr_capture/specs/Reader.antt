-- What a reader of either form knows, and what its calls do.
use Rattle.std.specs.Prelude.{◌≡◌, ℕ, List, [], Option, Some, None, Result, Ok, Err}
use Rattle.sr_io.specs.Window.{WindowView, Pending}
use Rattle.sr_pcap.specs.declared.begin_refusal.BeginRefusal.{BeginRefusal}
use Rattle.sr_pcap.specs.declared.begin_refusal.BeginRefusal.TheVariants as begin
use Rattle.sr_capture.specs.declared.capture_reader.CaptureReader.{CaptureReader}
use Rattle.sr_capture.specs.declared.capture_reader.CaptureReader.TheVariants as reader
use Rattle.sr_capture.specs.declared.capture_refusal.CaptureRefusal.{CaptureRefusal}
use Rattle.sr_capture.specs.declared.record.Record.{Record}
use Rattle.sr_capture.specs.declared.record.Record.TheVariants.{Whole, Over, Failed}
use Rattle.sr_capture.specs.Capture.{begin_of}
use Rattle.sr_capture.specs.Records.{Arrival, Place, Classic, Ng}

-- where it reads on
abbrev pub place_of : CaptureReader → Place
place_of (reader.Classic r) = Classic r.format r.offset
place_of (reader.Ng r) = Ng r.place

-- the window with the bytes that aren't used yet
abbrev pub window_of : CaptureReader → WindowView
window_of (reader.Classic r) = r.window
window_of (reader.Ng r) = r.window

-- the captured bytes of the last whole record
abbrev pub bytes_of : CaptureReader → List ℕ
bytes_of (reader.Classic r) = r.bytes
bytes_of (reader.Ng r) = r.bytes

-- it hasn't ended
abbrev pub IsGoing : CaptureReader → Type 0
IsGoing (reader.Classic r) = r.ended ≡ None
IsGoing (reader.Ng r) = r.ended ≡ None

-- so it is after a whole record
abbrev pub GoesOn : Record → CaptureReader → Type 0
GoesOn (Whole ms link offset) r = IsGoing r
GoesOn (Over ending) r = Unit {0}
GoesOn Failed r = Unit {0}

-- the reader stands where the records begin
pub record Stands (bytes : List ℕ) (r : CaptureReader) (left : Option (List ℕ)) : Type 0 where
  pub rest : List ℕ
  pub begins : begin_of bytes ≡ Ok (record { place = place_of r; rest = rest })
  pub pending : Pending (window_of r) left rest

-- The front of a capture of these bytes was read.
abbrev pub Begins : Result CaptureReader BeginRefusal → List ℕ → Option (List ℕ) → Type 0
Begins (Ok r) bytes left = Stands bytes r left
Begins (Err begin.ReadFault) bytes left = Unit {0}
Begins (Err begin.Memory) bytes left = Unit {0}
Begins (Err why) bytes left = begin_of bytes ≡ Err why

-- the record that comes next was read, its captured bytes are there, and the bytes after it are still to be read
pub record Arrives (ms link at : ℕ) (definition : Result Arrival (Option CaptureRefusal)) (r : CaptureReader) (left : Option (List ℕ)) : Type 0 where
  pub rest : List ℕ
  pub same : definition ≡ Ok (record { frame = record { ms = ms; link = link; bytes = bytes_of r }; offset = at; place = place_of r; rest = rest })
  pub pending : Pending (window_of r) left rest

-- What comes next was answered. Where the capture ends the source has no byte left.
abbrev pub Answers : Record → Result Arrival (Option CaptureRefusal) → CaptureReader → Option (List ℕ) → Type 0
Answers (Whole ms link at) definition r left = Arrives ms link at definition r left
Answers (Over ending) definition r left = (definition ≡ Err ending) × (ending ≡ None → left ≡ Some [])
Answers Failed definition r left = Unit {0}
