-- A sink in memory that never fails.
use Rattle.std.specs.Prelude.{ℕ, ◌-◌, nat_le, List, ◌++◌, length, Bool, true, Option, Some, None, if◌then◌else◌}
use Rattle.sr_io.specs.Sink.{SinkKnown}

-- the bytes that were taken while there was room; the room for all of them; whether a write found too little
pub record SureSinkView : Type 0 where
  pub bytes : List ℕ
  pub room : ℕ
  pub over : Bool

-- the bytes, until a write finds too little room
abbrev pub told_of : SureSinkView → Option (List ℕ)
told_of s = if s.over then None else Some s.bytes

-- what it tells of itself: no call fails
abbrev pub sure_known : SureSinkView → SinkKnown
sure_known s = record { taken = told_of s; faults = 0 }

-- A write of bytes that fit takes them; one of more ends what the sink takes and tells.
abbrev pub after_write : SureSinkView → List ℕ → SureSinkView
after_write s bytes =
    if s.over then s else
    (if nat_le (length bytes) (s.room - length s.bytes) then record s { bytes = s.bytes ++ bytes } else record s { over = true })
