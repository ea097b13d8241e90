-- The options of an interface description.
use Rattle.std.specs.Prelude.{◌≡◌, ℕ, ◌≤◌, true, zero, suc, ◌+◌, ◌-◌, ◌==◌, ◌&&◌, Bool, nat_lt, if◌then◌else◌, List, length, take, drop, slice_get, Option, Some, None, Result, Ok, Err}
use Rattle.sr_pcapng.specs.declared.endian.Endian.{Endian}
use Rattle.sr_pcapng.specs.declared.stop.Stop.{Stop}
use Rattle.sr_pcapng.specs.declared.stop.Stop.TheVariants.{Truncated, Block}
use Rattle.sr_pcapng.specs.declared.option_head.OptionHead.{OptionHead}
use Rattle.sr_pcapng.specs.declared.option_head.OptionHead.TheVariants.{Last, Value}
use Rattle.sr_pcapng.specs.Endian.{number}
use Rattle.sr_pcapng.specs.Front.{padded}

-- an option with so many bytes of a value, where so many bytes are left for it and the options after it
unfoldable pub option_sized : ℕ → ℕ → ℕ → ℕ → Result OptionHead Stop
option_sized offset room code size =
    if code == 0 then Ok Last
    else (if nat_lt room (4 + padded size) then Err (Block offset)
    else Ok (Value (padded size) ((code == 9) && nat_lt 0 size)))

-- what any option that is taken has
abbrev pub FitsIn : OptionHead → ℕ → Type 0
FitsIn Last room = Unit {0}
FitsIn (Value size tells) room = (4 + size ≤ room) × (tells ≡ true → 4 ≤ size)

-- what the four bytes at an option's front say
unfoldable pub option_of : Endian → ℕ → ℕ → List ℕ → Result OptionHead Stop
option_of endian offset room bytes =
    if nat_lt (length bytes) 4 then Err (Truncated offset)
    else option_sized offset room (number endian 2 bytes) (number endian 2 (drop 2 bytes))

-- where the options end: the resolution that the first option of one gives, how many bytes of the body follow, and what bytes are left
pub record Walked : Type 0 where
  pub resolution : Option ℕ
  pub more : ℕ
  pub rest : List ℕ

-- the first resolution stays
abbrev pub kept : Option ℕ → Bool → List ℕ → Option ℕ
kept (Some resolution) tells bytes = Some resolution
kept None tells bytes = if tells then slice_get (take 4 bytes) 0 else None

-- the options in so many bytes, at most as many as the first number says; a resolution may have been given before
unfoldable pub walk : ℕ → Endian → ℕ → ℕ → Option ℕ → List ℕ → Result Walked Stop
walk zero endian offset room resolution bytes = Ok (record { resolution = resolution; more = room; rest = bytes })
walk (suc most) endian offset room resolution bytes =
    if room == 0 then Ok (record { resolution = resolution; more = 0; rest = bytes })
    else elim (option_of endian offset room (take 4 bytes)) [
      | Err why ↦ Err why
      | Ok head ↦ elim head [
        | Last ↦ Ok (record { resolution = resolution; more = room - 4; rest = drop 4 bytes })
        | Value size tells ↦ walk most endian offset (room - (4 + size)) (kept resolution tells (drop 4 bytes)) (drop size (drop 4 bytes))
      ]
    ]
