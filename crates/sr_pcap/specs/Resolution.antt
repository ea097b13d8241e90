-- What the fraction of a second counts.
use Rattle.std.specs.Prelude.{ℕ, ◌==◌, if◌then◌else◌, Option, Some, None}
use Rattle.sr_pcap.specs.declared.resolution.Resolution.{Resolution}
use Rattle.sr_pcap.specs.declared.resolution.Resolution.TheVariants.{Microseconds, Nanoseconds}

-- the resolution that a magic stands for, if it is one
abbrev pub resolution_of : ℕ → Option Resolution
resolution_of magic =
    if magic == 0xa1b2c3d4 then Some Microseconds
    else (if magic == 0xa1b23c4d then Some Nanoseconds else None)

-- how many units a millisecond has
abbrev pub per_millisecond : Resolution → ℕ
per_millisecond Microseconds = 1000
per_millisecond Nanoseconds = 1000000
