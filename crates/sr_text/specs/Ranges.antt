-- The grammar takes every number that its field's type holds: these are the types' ranges.
use Rattle.std.specs.Prelude.{ℕ, ◌^◌, ◌<◌}
use Rattle.sr_base.specs.Key.{IsKey}
use Rattle.sr_base.specs.declared.place.Place.{Place}
use Rattle.sr_base.specs.declared.place.Place.TheVariants.{Slot, Row}
use Rattle.sr_frame.specs.declared.skip.Skip.{Skip}
use Rattle.sr_law.specs.declared.line.Line.{Line}
use Rattle.sr_law.specs.declared.line.Line.TheVariants.{Packet, Answer, Given, Recorded, Hold, Switched, Finished, TakenDown, Reserved, Placed, Cleared, Swept, Retired, Refused}
use Rattle.sr_law.specs.declared.verdict.Verdict.{Verdict}
use Rattle.sr_law.specs.declared.verdict.Verdict.TheVariants.{To, Held, Down, Full, NoPlace}

-- a place's numbers: way and cell of 8 bits, bucket and row of 32
abbrev pub IsPlace : Place → Type 0
IsPlace (Slot way bucket cell) = (way < 2 ^ 8) × (bucket < 2 ^ 32) × (cell < 2 ^ 8)
IsPlace (Row row) = row < 2 ^ 32

-- a server, a version of six bits, a pool
abbrev pub IsChoice : ℕ → ℕ → ℕ → Type 0
IsChoice server version pool = (server < 2 ^ 32) × (version < 2 ^ 6) × (pool < 2 ^ 64)

-- a verdict's numbers
abbrev pub IsVerdict : Verdict → Type 0
IsVerdict (To server version pool) = IsChoice server version pool
IsVerdict (Held cause) = Unit {0}
IsVerdict (Down server version pool) = IsChoice server version pool
IsVerdict Full = Unit {0}
IsVerdict NoPlace = Unit {0}

-- a line's numbers
unfoldable pub IsLine : Line → Type 0
IsLine (Packet number entered out pipe key kind verdict) =
    (number < 2 ^ 32) × (entered < 2 ^ 64) × (out < 2 ^ 64) × (pipe < 2 ^ 8) × IsKey key × IsVerdict verdict
IsLine (Answer out pipe nth key verdict) = (out < 2 ^ 64) × (pipe < 2 ^ 8) × (nth < 2 ^ 32) × IsKey key × IsVerdict verdict
IsLine (Given out vip version pool) = (out < 2 ^ 64) × (vip < 2 ^ 8) × (version < 2 ^ 6) × (pool < 2 ^ 64)
IsLine (Recorded out vip) = (out < 2 ^ 64) × (vip < 2 ^ 8)
IsLine (Hold out vip) = (out < 2 ^ 64) × (vip < 2 ^ 8)
IsLine (Switched out vip pool) = (out < 2 ^ 64) × (vip < 2 ^ 8) × (pool < 2 ^ 64)
IsLine (Finished out vip) = (out < 2 ^ 64) × (vip < 2 ^ 8)
IsLine (TakenDown out server) = (out < 2 ^ 64) × (server < 2 ^ 32)
IsLine (Reserved out key place) = (out < 2 ^ 64) × IsKey key × IsPlace place
IsLine (Placed out key place) = (out < 2 ^ 64) × IsKey key × IsPlace place
IsLine (Cleared out key place) = (out < 2 ^ 64) × IsKey key × IsPlace place
IsLine (Swept number from to at_ms) = (number < 2 ^ 64) × (from < 2 ^ 64) × (to < 2 ^ 64) × (at_ms < 2 ^ 64)
IsLine (Retired out key) = (out < 2 ^ 64) × IsKey key
IsLine (Refused out change) = (out < 2 ^ 64) × (change < 2 ^ 32)

-- a skipped record's number
abbrev pub IsSkipped : ℕ × Skip → Type 0
IsSkipped skip = skip.0 < 2 ^ 32
