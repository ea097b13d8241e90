-- The schema: which trees are scripts, and which script such a tree spells.
use Rattle.std.specs.Prelude.{◌≡◌, ℕ, ◌≤◌, Bool, false, ℤ, pos, List, [], ◌∷◌, ◌++◌, codes, length, nat_eq, Some, option_map, MatchOption, IsTrue}
use Rattle.std.specs.List.{list_any, AllByRecursion}
use Rattle.std.specs.Str.{bytes_eq}
use Rattle.toml.specs.Data.{Data, Members, as_str, as_integer, as_array, as_table, get_member}
use Rattle.sr_base.specs.Ranges.{most_pipes, most_buckets, most_digest_bits, most_versions, most_in_pool, most_full_rows, most_filter_bits, most_ring_cells, most_window_ms, most_idle_ms, most_lives, most_vips, most_servers}
use Rattle.sr_base.specs.declared.shape.Shape.{Shape}
use Rattle.sr_base.specs.declared.change.Change.{Change}
use Rattle.sr_base.specs.declared.change.What.{What}
use Rattle.sr_base.specs.declared.change.What.TheVariants.{Give, TakeDown}
use Rattle.sr_script.specs.declared.rule.Rule.{Rule}
use Rattle.sr_script.specs.declared.rule.Rule.TheVariants.{Between, PowerUpTo, FoursUpTo, Below}
use Rattle.sr_script.specs.Address.{address_of}
use Rattle.sr_script.specs.Judge.{list_of, keys_of, has, fits}
use Rattle.sr_script.specs.Spelled.{Address, Spelled, default_shape, shape_keys, top_keys, same_address, addresses_of, pools_of, last_ms, takes_down, most_changes}

-- ---- words

-- the value is of this type, and this is what it holds
abbrev pub IsText : Data → List ℕ → Type 0
IsText d bytes = as_str d ≡ Some bytes

-- the value is this whole number
abbrev pub IsWhole : Data → ℤ → Type 0
IsWhole d z = as_integer d ≡ Some z

-- the value is an array with these elements
abbrev pub IsArray : Data → List Data → Type 0
IsArray d ds = option_map list_of (as_array d) ≡ Some ds

-- the value is this table
abbrev pub IsTable : Data → Members → Type 0
IsTable d t = as_table d ≡ Some t

-- the key is one of these
abbrev pub IsAmong : List (List ℕ) → List ℕ → Type 0
IsAmong known key = IsTrue (list_any (bytes_eq key) known)

-- the table has no other keys
abbrev pub HasOnly : List (List ℕ) → Members → Type 0
HasOnly known t = AllByRecursion (IsAmong known) (keys_of t)

-- the table has the key, and its value is so
abbrev pub At : List ℕ → Members → (Data → Type 0) → Type 0
At key t P = (d : Data) × (get_member key t ≡ Some d) × P d

-- the values spell these, one by one
abbrev pub SpellAll : {A : Type 0} → (Data → A → Type 0) → List Data → List A → Type 0
SpellAll R [] [] = Unit {0}
SpellAll R [] (x ∷ xs) = ⊥
SpellAll R (d ∷ ds) [] = ⊥
SpellAll R (d ∷ ds) (x ∷ xs) = R d x × SpellAll R ds xs

-- the value is an array whose elements spell these
abbrev pub SpellsList : {A : Type 0} → (Data → A → Type 0) → Data → List A → Type 0
SpellsList R d xs = (ds : List Data) × IsArray d ds × SpellAll R ds xs

-- how many there are
abbrev pub HasCount : {A : Type 0} → ℕ → ℕ → List A → Type 0
HasCount low high xs = (low ≤ length xs) × (length xs ≤ high)

-- each element stands so to those before it, where the list goes on from `before`
abbrev pub EachAfter : {A : Type 0} → (List A → A → Type 0) → List A → List A → Type 0
EachAfter Q before [] = Unit {0}
EachAfter Q before (x ∷ xs) = Q before x × EachAfter Q (before ++ x ∷ []) xs

-- none of those before it is the same
abbrev pub IsNew : {A : Type 0} → (A → A → Bool) → List A → A → Type 0
IsNew same before x = list_any (λ y. same y x) before ≡ false

-- ---- numbers and addresses

-- a whole number of the rule
abbrev pub SpellsNumber : Rule → Data → ℕ → Type 0
SpellsNumber rule d n = IsWhole d (pos n) × IsTrue (fits rule n)

-- an address text
abbrev pub SpellsAddress : Data → Address → Type 0
SpellsAddress d a = (bytes : List ℕ) × IsText d bytes × (address_of bytes ≡ Some a)

-- ---- the shape

-- a number of the shape: a whole number of the rule, or the default where the key is missing
abbrev pub SpellsOr : List ℕ → ℕ → Rule → Members → ℕ → Type 0
SpellsOr key default rule t n = MatchOption (get_member key t) (n ≡ default) (λ d. SpellsNumber rule d n)

-- The table has no other keys than those of a shape. Each number is a whole one in its range, or the default where its key is missing.
pub record SpellsShape (t : Members) (s : Shape) : Type 0 where
  pub keys : HasOnly shape_keys t
  pub pipes : SpellsOr (codes "pipes") default_shape.pipes (Between 1 most_pipes) t s.pipes
  pub buckets : SpellsOr (codes "buckets") default_shape.buckets (PowerUpTo most_buckets) t s.buckets
  pub digest_bits : SpellsOr (codes "digest_bits") default_shape.digest_bits (Between 0 most_digest_bits) t s.digest_bits
  pub versions : SpellsOr (codes "versions") default_shape.versions (Between 2 most_versions) t s.versions
  pub pool_max : SpellsOr (codes "pool_max") default_shape.pool_max (Between 1 most_in_pool) t s.pool_max
  pub full_rows : SpellsOr (codes "full_rows") default_shape.full_rows (FoursUpTo most_full_rows) t s.full_rows
  pub filter_bits : SpellsOr (codes "filter_bits") default_shape.filter_bits (PowerUpTo most_filter_bits) t s.filter_bits
  pub ring : SpellsOr (codes "ring") default_shape.ring (Between 1 most_ring_cells) t s.ring
  pub window_ms : SpellsOr (codes "window_ms") default_shape.window_ms (Between 1 most_window_ms) t s.window_ms
  pub idle_ms : SpellsOr (codes "idle_ms") default_shape.idle_ms (Between 1 most_idle_ms) t s.idle_ms
  pub lives : SpellsOr (codes "lives") default_shape.lives (Between 1 most_lives) t s.lives

-- ---- servers, pools and virtual addresses

-- 1 to 65,536 addresses, all different
pub record SpellsServers (d : Data) (servers : List Address) : Type 0 where
  pub each : SpellsList SpellsAddress d servers
  pub count : HasCount 1 most_servers servers
  pub different : EachAfter (IsNew same_address) [] servers

-- 1 to `pool_max` positions among so many servers, all different
pub record SpellsPool (pool_max servers : ℕ) (d : Data) (pool : List ℕ) : Type 0 where
  pub each : SpellsList (SpellsNumber (Below servers)) d pool
  pub count : HasCount 1 pool_max pool
  pub different : EachAfter (IsNew nat_eq) [] pool

-- a virtual address and its first pool
pub record SpellsVip (pool_max servers : ℕ) (d : Data) (v : Address × List ℕ) : Type 0 where
  pub table : Members
  pub is_table : IsTable d table
  pub keys : HasOnly (codes "addr" ∷ codes "pool" ∷ []) table
  pub addr : At (codes "addr") table (λ e. SpellsAddress e v.0)
  pub pool : At (codes "pool") table (λ e. SpellsPool pool_max servers e v.1)

-- 1 to 16 virtual addresses, their addresses all different
pub record SpellsVips (pool_max servers : ℕ) (d : Data) (vips : List (Address × List ℕ)) : Type 0 where
  pub each : SpellsList (SpellsVip pool_max servers) d vips
  pub count : HasCount 1 most_vips vips
  pub different : EachAfter (λ before v. IsNew same_address (addresses_of before) v.0) [] vips

-- ---- changes

-- what a change does: it gives a virtual address a pool, or takes a server down
abbrev pub SpellsWhat : ℕ → ℕ → ℕ → Members → What → Type 0
SpellsWhat pool_max servers vips t (Give vip pool) =
    (has (codes "down") t ≡ false) × At (codes "vip") t (λ d. SpellsNumber (Below vips) d vip) × At (codes "pool") t (λ d. SpellsPool pool_max servers d pool)
SpellsWhat pool_max servers vips t (TakeDown server) =
    (has (codes "vip") t ≡ false) × (has (codes "pool") t ≡ false) × At (codes "down") t (λ d. SpellsNumber (Below servers) d server)

-- a change: when it is due, in milliseconds of the capture, and what it does
pub record SpellsChange (pool_max servers vips : ℕ) (d : Data) (c : Change) : Type 0 where
  pub table : Members
  pub is_table : IsTable d table
  pub keys : HasOnly (codes "at_ms" ∷ codes "vip" ∷ codes "pool" ∷ codes "down" ∷ []) table
  pub at_ms : At (codes "at_ms") table (λ e. SpellsNumber (Between 0 9007199254740991) e c.at_ms)
  pub what : SpellsWhat pool_max servers vips table c.what

-- a server that is taken down is one that no change before takes down
abbrev pub IsStillUp : List Change → What → Type 0
IsStillUp before (Give vip pool) = Unit {0}
IsStillUp before (TakeDown server) = list_any (λ c. takes_down server c.what) before ≡ false

-- a change isn't due before the one before it, and takes no server down a second time
abbrev pub Follows : List Change → Change → Type 0
Follows before c = (last_ms before ≤ c.at_ms) × IsStillUp before c.what

-- at most 4,096 changes in the order in which they are due
pub record SpellsChanges (pool_max servers vips : ℕ) (d : Data) (changes : List Change) : Type 0 where
  pub each : SpellsList (SpellsChange pool_max servers vips) d changes
  pub count : HasCount 0 most_changes changes
  pub ordered : EachAfter Follows [] changes

-- ---- the script

-- the tree is a script, and spells this one
pub record Spells (t : Members) (s : Spelled) : Type 0 where
  pub keys : HasOnly top_keys t
  pub shape : MatchOption (get_member (codes "shape") t) (s.shape ≡ default_shape) (λ d. (u : Members) × IsTable d u × SpellsShape u s.shape)
  pub servers : At (codes "servers") t (λ d. SpellsServers d s.servers)
  pub vips : (vips : List (Address × List ℕ)) × At (codes "vip") t (λ d. SpellsVips s.shape.pool_max (length s.servers) d vips)
      × (s.vips ≡ addresses_of vips) × (s.first ≡ pools_of vips)
  pub changes : MatchOption (get_member (codes "change") t) (s.changes ≡ []) (λ d. SpellsChanges s.shape.pool_max (length s.servers) (length s.vips) d s.changes)
