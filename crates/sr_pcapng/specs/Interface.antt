-- The times of an interface's packets.
use Rattle.std.specs.Prelude.{ℕ, ◌-◌, ◌*◌, ◌/◌, ◌^◌, min, nat_lt, if◌then◌else◌}

-- how many units a second has, by the byte of the resolution
abbrev pub units_of : ℕ → ℕ
units_of resolution = if nat_lt resolution 128 then 10 ^ resolution else 2 ^ (resolution - 128)

-- a time in whole milliseconds, as far as one is told
abbrev pub milliseconds : ℕ → ℕ → ℕ
milliseconds resolution time = min (time * 1000 / units_of resolution) (2 ^ 53 - 1)
