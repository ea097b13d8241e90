-- What a script says, and the words that both the schema and the walk through a script's tree speak in.
use Rattle.std.specs.Prelude.{ℕ, Bool, ◌-◌, ◌==◌, ◌&&◌, List, [], ◌∷◌, codes, length, map, option_map, unwrap_or, slice_get}
use Rattle.sr_base.specs.declared.shape.Shape.{Shape}
use Rattle.sr_base.specs.declared.change.Change.{Change}
pub use Rattle.sr_base.specs.Fitting.{takes_down}

-- an address and a port
abbrev pub Address : Type 0
Address = ℕ × ℕ

-- what a script says: its shape, its virtual addresses and its servers, the first pool of each virtual address, its changes
pub record Spelled : Type 0 where
  pub shape : Shape
  pub vips : List Address
  pub servers : List Address
  pub first : List (List ℕ)
  pub changes : List Change

-- the keys of a script
abbrev pub top_keys : List (List ℕ)
top_keys = codes "shape" ∷ codes "servers" ∷ codes "vip" ∷ codes "change" ∷ []

-- the keys of a shape
abbrev pub shape_keys : List (List ℕ)
shape_keys = codes "pipes" ∷ codes "buckets" ∷ codes "digest_bits" ∷ codes "versions" ∷ codes "pool_max" ∷ codes "full_rows"
    ∷ codes "filter_bits" ∷ codes "ring" ∷ codes "window_ms" ∷ codes "idle_ms" ∷ codes "lives" ∷ []

-- the most changes of a script
abbrev pub most_changes : ℕ
most_changes = 4096

-- the numbers of a shape that says nothing
abbrev pub default_shape : Shape
default_shape = record {
  pipes = 8;
  buckets = 8192;
  digest_bits = 16;
  versions = 64;
  pool_max = 16;
  full_rows = 1024;
  filter_bits = 65536;
  ring = 65536;
  window_ms = 100;
  idle_ms = 10000;
  lives = 3;
}

-- whether two addresses are the same, with their ports
abbrev pub same_address : Address → Address → Bool
same_address a b = (a.0 == b.0) && (a.1 == b.1)

-- the addresses of some virtual addresses with their pools
abbrev pub addresses_of : List (Address × List ℕ) → List Address
addresses_of = map (λ v. v.0)

-- the pools alone
abbrev pub pools_of : List (Address × List ℕ) → List (List ℕ)
pools_of = map (λ v. v.1)

-- when the last change is due, in milliseconds of the capture, or 0
abbrev pub last_ms : List Change → ℕ
last_ms before = unwrap_or (option_map (λ c. c.at_ms) (slice_get before (length before - 1))) 0
