-- What each of the ten hashes of a key is for.
use Rattle.std.specs.Prelude.{ℕ, ◌+◌, ◌/◌, ◌%◌, ◌^◌, Bool, ◌&&◌, ◌||◌, ◌==◌, nat_lt, List, [], ◌∷◌}
use Rattle.sr_base.specs.Key.{KeyView}
use Rattle.sr_base.specs.declared.place.Place.{Place}
use Rattle.sr_base.specs.declared.place.Place.TheVariants.{Slot, Row}
use Rattle.sr_base.specs.declared.shape.Shape.{Shape}
use Rattle.sr_hash.specs.Keyed.{hash_of}

-- the place of a pool of this size
abbrev pub selected : ℕ → KeyView → ℕ
selected size key = hash_of 0 key % size

-- the bucket of way 1 or 2, of so many
abbrev pub bucket_of : ℕ → KeyView → ℕ → ℕ
bucket_of way key buckets = hash_of way key % buckets

-- the digest of way 1 or 2, of so many bits
abbrev pub digest_of : ℕ → KeyView → ℕ → ℕ
digest_of way key bits = hash_of (way + 2) key % 2 ^ bits

-- the three places in a filter of so many bits
abbrev pub bloom_places_of : KeyView → ℕ → List ℕ
bloom_places_of key bits = (hash_of 5 key % bits) ∷ (hash_of 6 key % bits) ∷ (hash_of 7 key % bits) ∷ []

-- the group of four rows, of so many rows
abbrev pub group_of : KeyView → ℕ → ℕ
group_of key rows = hash_of 8 key % (rows / 4)

-- the pipe, of so many
abbrev pub pipe_number : KeyView → ℕ → ℕ
pipe_number key pipes = hash_of 9 key % pipes

-- a place of the key: a cell of its bucket of that way, or a row of its group
abbrev pub is_place_of : Shape → KeyView → Place → Bool
is_place_of shape key (Slot way bucket cell) = ((way == 1) || (way == 2)) && (bucket == bucket_of way key shape.buckets) && nat_lt cell 4
is_place_of shape key (Row row) = row / 4 == group_of key shape.full_rows
