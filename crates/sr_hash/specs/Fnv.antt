-- FNV-1a with 64 bits, and the fold.
use Rattle.std.specs.Prelude.{ℕ, ◌*◌, ◌/◌, ◌%◌, ◌^◌, List, fold, bit_xor}

-- one byte more: xor, and then times the prime, of 64 bits
abbrev pub fnv_next : ℕ → ℕ → ℕ
fnv_next x byte = (bit_xor x byte * 1099511628211) % 2 ^ 64

-- the hash of a list of bytes
abbrev pub fnv_of : List ℕ → ℕ
fnv_of bytes = fold fnv_next 14695981039346656037 bytes

-- the high half xored into the low one
abbrev pub folded : ℕ → ℕ
folded x = bit_xor x (x / 2 ^ 32)
