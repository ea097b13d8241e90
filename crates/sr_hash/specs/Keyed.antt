-- The ten hashes of a key.
use Rattle.std.specs.Prelude.{ℕ, List, ◌∷◌, drop}
use Rattle.std.specs.Int.{to_be_bytes, w64}
use Rattle.sr_base.specs.Key.{KeyView, packed}
use Rattle.sr_hash.specs.Fnv.{fnv_of, folded}

-- the hash's number, and the key's number in seven bytes, the highest first
abbrev pub hashed_bytes : ℕ → KeyView → List ℕ
hashed_bytes i key = i ∷ drop 1 (to_be_bytes w64 (packed key))

unfoldable pub hash_of : ℕ → KeyView → ℕ
hash_of i key = folded (fnv_of (hashed_bytes i key))
