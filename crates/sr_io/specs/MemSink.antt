-- A sink in memory, some calls of which are to fail.
use Rattle.std.specs.Prelude.{ℕ, ◌-◌, ◌/◌, min, nat_le, List, ◌++◌, length, take, Some, if◌then◌else◌}
use Rattle.sr_io.specs.Calls.{CallsView, fails_next, after_call, after_fault}
use Rattle.sr_io.specs.Sink.{SinkKnown}
use Rattle.sr_io.specs.declared.sink.Put.{Put}
use Rattle.sr_io.specs.declared.sink.Put.TheVariants.{All, Failed}

-- the bytes that were taken, the room for all of them, and the calls
pub record MemSinkView : Type 0 where
  pub bytes : List ℕ
  pub room : ℕ
  pub calls : CallsView

-- what it tells of itself
abbrev pub known_of : MemSinkView → SinkKnown
known_of s = record { taken = Some s.bytes; faults = s.calls.faults }

-- a write that is to fail fails, and so does one of more bytes than the room that is left
abbrev pub write_of : MemSinkView → List ℕ → Put
write_of s bytes = if fails_next s.calls then Failed else (if nat_le (length bytes) (s.room - length s.bytes) then All else Failed)

-- A write that is to fail takes half of the bytes, rounded down, and each other all of them: in both cases no more than fit.
abbrev pub taken_of : MemSinkView → List ℕ → List ℕ
taken_of s bytes = take (min (if fails_next s.calls then length bytes / 2 else length bytes) (s.room - length s.bytes)) bytes

-- one more call, with this answer
abbrev pub calls_after : CallsView → Put → CallsView
calls_after c All = after_call c
calls_after c Failed = after_fault c

abbrev pub after_mem_write : MemSinkView → List ℕ → Put → MemSinkView
after_mem_write s bytes put = record s { bytes = s.bytes ++ taken_of s bytes; calls = calls_after s.calls put }

-- a flush that is to fail fails
abbrev pub flush_of : MemSinkView → Put
flush_of s = if fails_next s.calls then Failed else All

-- a flush takes nothing
abbrev pub after_flush : MemSinkView → Put → MemSinkView
after_flush s put = record s { calls = calls_after s.calls put }
