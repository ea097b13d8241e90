-- Virtual addresses and their numbers.
use Rattle.std.specs.Prelude.{ℕ, ◌+◌, ◌==◌, ◌&&◌, if◌then◌else◌, List, [], ◌∷◌, Option, Some, None}

-- the number of the first of these that is this address and port, where they are numbered from this number on
abbrev pub vip_number : ℕ → ℕ → ℕ → List (ℕ × ℕ) → Option ℕ
vip_number number address port [] = None
vip_number number address port (vip ∷ vips) =
    if (vip.0 == address) && (vip.1 == port) then Some number else vip_number (number + 1) address port vips
