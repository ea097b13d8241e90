-- The times of the records of a capture.
use Rattle.std.specs.Prelude.{ℕ, ◌-◌, max, Option, Some, None}
use Rattle.std.specs.Option.{unwrap_or}
use Rattle.sr_capture.specs.declared.clock.Clock.{Clock}

-- no record was read
abbrev pub new_clock : Clock
new_clock = record { first = None; latest = 0 }

-- a record with this time was read
abbrev pub seen_at : Clock → ℕ → Clock
seen_at clock ms = record { first = Some (unwrap_or clock.first ms); latest = max clock.latest ms }

-- the time of the last record: the greatest time so far, less that of the first record
abbrev pub time_of : Clock → ℕ
time_of clock = clock.latest - unwrap_or clock.first 0
