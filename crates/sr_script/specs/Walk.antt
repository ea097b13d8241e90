-- The walk through the tree of a script: the script that the tree spells, or the first fault and its path.
use Rattle.std.specs.Prelude.{ℕ, Bool, true, false, ◌||◌, nat_eq, List, [], ◌∷◌, codes, length, if◌then◌else◌, Option, Some, None, ok_or, Ok, Err}
use Rattle.std.specs.List.{list_any}
use Rattle.std.specs.Str.{bytes_eq}
use Rattle.toml.specs.Data.{Data, Members, get_member}
use Rattle.sr_base.specs.Ranges.{most_pipes, most_buckets, most_digest_bits, most_versions, most_in_pool, most_full_rows, most_filter_bits, most_ring_cells, most_window_ms, most_idle_ms, most_lives, most_vips, most_servers}
use Rattle.sr_base.specs.declared.shape.Shape as shape
use Rattle.sr_base.specs.declared.change.Change.{Change as change}
use Rattle.sr_base.specs.declared.change.What.{What}
use Rattle.sr_base.specs.declared.change.What.TheVariants.{Give, TakeDown}
use Rattle.sr_script.specs.declared.why.Why.TheVariants.{UnknownKey, OutOfRange, Repeated, NoSuchServer, NoSuchVip, EmptyPool, PoolTooLarge, TooManyChanges, TooManyVips}
use Rattle.sr_script.specs.declared.section.Section.{Section}
use Rattle.sr_script.specs.declared.section.Section.TheVariants.{Top, Shape, Vip, Change}
use Rattle.sr_script.specs.declared.rule.Rule.{Rule}
use Rattle.sr_script.specs.declared.rule.Rule.TheVariants.{Between, PowerUpTo, FoursUpTo, Below}
use Rattle.sr_script.specs.Address.{address_of}
use Rattle.sr_script.specs.Spelled.{Address, Spelled, top_keys, shape_keys, default_shape, same_address, addresses_of, pools_of, last_ms, takes_down, most_changes}
use Rattle.sr_script.specs.Fault.{Judgement, Reading, ◌>>=◌, at_path, each_after}
use Rattle.sr_script.specs.Path.{key_path, item_path}
use Rattle.sr_script.specs.Judge.{keys_of, has, wanted, text, elements, table, number, some, at_most, fresh}

-- the unknown keys of a table, in the table's order, which is that of their bytes
unfoldable pub only_known : Section → List (List ℕ) → List (List ℕ) → Reading (Unit {0})
only_known section known [] = Ok tt
only_known section known (key ∷ keys) =
    if list_any (bytes_eq key) known then only_known section known keys
    else at_path (key_path section key) (Err UnknownKey)

-- ---- the shape

-- a number of the shape, or the default where the key is missing
abbrev pub number_or : ℕ → Rule → Option Data → Judgement ℕ
number_or default rule None = Ok default
number_or default rule (Some d) = number rule OutOfRange d

-- a number at a key of the shape's table
unfoldable pub shape_number : List ℕ → ℕ → Rule → Members → Reading ℕ
shape_number key default rule t = at_path (key_path Shape key) (number_or default rule (get_member key t))

-- the table of a shape
unfoldable pub shape_in : Members → Reading shape.Shape
shape_in t = do
  _ ← only_known Shape shape_keys (keys_of t)
  pipes ← shape_number (codes "pipes") default_shape.pipes (Between 1 most_pipes) t
  buckets ← shape_number (codes "buckets") default_shape.buckets (PowerUpTo most_buckets) t
  digest_bits ← shape_number (codes "digest_bits") default_shape.digest_bits (Between 0 most_digest_bits) t
  versions ← shape_number (codes "versions") default_shape.versions (Between 2 most_versions) t
  pool_max ← shape_number (codes "pool_max") default_shape.pool_max (Between 1 most_in_pool) t
  full_rows ← shape_number (codes "full_rows") default_shape.full_rows (FoursUpTo most_full_rows) t
  filter_bits ← shape_number (codes "filter_bits") default_shape.filter_bits (PowerUpTo most_filter_bits) t
  ring ← shape_number (codes "ring") default_shape.ring (Between 1 most_ring_cells) t
  window_ms ← shape_number (codes "window_ms") default_shape.window_ms (Between 1 most_window_ms) t
  idle_ms ← shape_number (codes "idle_ms") default_shape.idle_ms (Between 1 most_idle_ms) t
  lives ← shape_number (codes "lives") default_shape.lives (Between 1 most_lives) t
  Ok (record {
    pipes = pipes;
    buckets = buckets;
    digest_bits = digest_bits;
    versions = versions;
    pool_max = pool_max;
    full_rows = full_rows;
    filter_bits = filter_bits;
    ring = ring;
    window_ms = window_ms;
    idle_ms = idle_ms;
    lives = lives;
  })

-- the shape of the value at `shape`, or the default where there is none
abbrev pub shape_or : Option Data → Reading shape.Shape
shape_or None = Ok default_shape
shape_or (Some d) = at_path (key_path Top (codes "shape")) (table d) >>= shape_in

-- the shape of a script
unfoldable pub shape_of : Members → Reading shape.Shape
shape_of t = shape_or (get_member (codes "shape") t)

-- ---- the servers

-- an address text whose address is none of those before it
abbrev pub address : List ℕ → Judgement Address
address bytes = ok_or (address_of bytes) OutOfRange

-- the address that a value spells, where it is none of those before it
unfoldable pub new_address : List Address → Data → Judgement Address
new_address before d = text d >>= address >>= fresh same_address before

-- a server of the script
abbrev pub server_in : List Address → Data → Reading Address
server_in before d = at_path (item_path Top (codes "servers") (length before)) (new_address before d)

-- the values at `servers`: an array of 1 to 65,536
unfoldable pub server_values : Members → Judgement (List Data)
server_values t = wanted (codes "servers") t >>= elements >>= some OutOfRange >>= at_most most_servers OutOfRange

-- the servers of a script, in their order
unfoldable pub servers_of : Members → Reading (List Address)
servers_of t = at_path (key_path Top (codes "servers")) (server_values t) >>= each_after server_in []

-- ---- a pool

-- a server of the pool that is none of those before it
unfoldable pub new_server : ℕ → List ℕ → Data → Judgement ℕ
new_server servers before d = number (Below servers) NoSuchServer d >>= fresh nat_eq before

-- a member of the pool
abbrev pub member_in : Section → ℕ → List ℕ → Data → Reading ℕ
member_in section servers before d = at_path (item_path section (codes "pool") (length before)) (new_server servers before d)

-- the values at `pool`: an array of 1 to `pool_max`
unfoldable pub pool_values : ℕ → Members → Judgement (List Data)
pool_values pool_max t = wanted (codes "pool") t >>= elements >>= some EmptyPool >>= at_most pool_max PoolTooLarge

-- the pool of a table
unfoldable pub pool_in : Section → ℕ → ℕ → Members → Reading (List ℕ)
pool_in section pool_max servers t = at_path (key_path section (codes "pool")) (pool_values pool_max t) >>= each_after (member_in section servers) []

-- ---- the virtual addresses

-- the address of a virtual address, where it is none of those before it
unfoldable pub vip_address : List Address → Members → Judgement Address
vip_address before t = wanted (codes "addr") t >>= new_address before

-- the table of a virtual address
unfoldable pub vip_table : ℕ → ℕ → List Address → Members → Reading (Address × List ℕ)
vip_table pool_max servers before t = do
  _ ← only_known (Vip (length before)) (codes "addr" ∷ codes "pool" ∷ []) (keys_of t)
  vip ← at_path (key_path (Vip (length before)) (codes "addr")) (vip_address before t)
  pool ← pool_in (Vip (length before)) pool_max servers t
  Ok (vip, pool)

-- a virtual address and its pool, after those before it
unfoldable pub vip_in : ℕ → ℕ → List Address → Data → Reading (Address × List ℕ)
vip_in pool_max servers before d = at_path (item_path Top (codes "vip") (length before)) (table d) >>= vip_table pool_max servers before

-- a virtual address after those before it
abbrev pub vip_after : ℕ → ℕ → List (Address × List ℕ) → Data → Reading (Address × List ℕ)
vip_after pool_max servers before d = vip_in pool_max servers (addresses_of before) d

-- the values at `vip`: an array of 1 to 16
unfoldable pub vip_values : Members → Judgement (List Data)
vip_values t = wanted (codes "vip") t >>= elements >>= some OutOfRange >>= at_most most_vips TooManyVips

-- the virtual addresses, and their pools
unfoldable pub vips_in : ℕ → ℕ → List Data → Reading (List Address × List (List ℕ))
vips_in pool_max servers values = each_after (vip_after pool_max servers) [] values >>= (λ vips. Ok (addresses_of vips, pools_of vips))

-- the virtual addresses of a script, and their pools
unfoldable pub vips_of : ℕ → ℕ → Members → Reading (List Address × List (List ℕ))
vips_of pool_max servers t = at_path (key_path Top (codes "vip")) (vip_values t) >>= vips_in pool_max servers

-- ---- the changes

-- a pool isn't given and a server taken down at once
abbrev pub gives : Members → Bool
gives t = has (codes "vip") t || has (codes "pool") t

-- the keys of a change that gives a pool, and of one that doesn't
abbrev pub change_keys : Bool → List (List ℕ)
change_keys true = codes "at_ms" ∷ codes "vip" ∷ codes "pool" ∷ []
change_keys false = codes "at_ms" ∷ codes "vip" ∷ codes "pool" ∷ codes "down" ∷ []

-- a server that no change before takes down
abbrev pub still_up : List change → ℕ → Judgement ℕ
still_up before server = if list_any (λ c. takes_down server c.what) before then Err Repeated else Ok server

-- the server that a change takes down
unfoldable pub down_in : ℕ → List change → Members → Judgement ℕ
down_in servers before t = wanted (codes "down") t >>= number (Below servers) NoSuchServer >>= still_up before

-- the virtual address whose pool a change gives
unfoldable pub given_vip : ℕ → Members → Judgement ℕ
given_vip vips t = wanted (codes "vip") t >>= number (Below vips) NoSuchVip

-- a change that takes a server down
unfoldable pub take_down_in : Section → ℕ → List change → Members → Reading What
take_down_in section servers before t = do
  server ← at_path (key_path section (codes "down")) (down_in servers before t)
  Ok (TakeDown server)

-- a change that gives a virtual address a pool
unfoldable pub give_in : Section → ℕ → ℕ → ℕ → Members → Reading What
give_in section pool_max servers vips t = do
  vip ← at_path (key_path section (codes "vip")) (given_vip vips t)
  pool ← pool_in section pool_max servers t
  Ok (Give vip pool)

-- what a change does
unfoldable pub what_in : Section → ℕ → ℕ → ℕ → List change → Members → Reading What
what_in section pool_max servers vips before t =
    if has (codes "down") t then take_down_in section servers before t else give_in section pool_max servers vips t

-- when a change is due
unfoldable pub due_in : ℕ → Members → Judgement ℕ
due_in last t = wanted (codes "at_ms") t >>= number (Between last 9007199254740991) OutOfRange

-- the table of a change
unfoldable pub change_table : ℕ → ℕ → ℕ → List change → Members → Reading change
change_table pool_max servers vips before t = do
  _ ← only_known (Change (length before)) (change_keys (gives t)) (keys_of t)
  at_ms ← at_path (key_path (Change (length before)) (codes "at_ms")) (due_in (last_ms before) t)
  what ← what_in (Change (length before)) pool_max servers vips before t
  Ok (record { at_ms = at_ms; what = what })

-- a change after those before it
unfoldable pub change_in : ℕ → ℕ → ℕ → List change → Data → Reading change
change_in pool_max servers vips before d =
    at_path (item_path Top (codes "change") (length before)) (table d) >>= change_table pool_max servers vips before

-- the elements of an array that may be missing
abbrev pub elements_or_none : Option Data → Judgement (List Data)
elements_or_none None = Ok []
elements_or_none (Some d) = elements d

-- the values at `change`: an array of 4,096 at most, or none
unfoldable pub change_values : Members → Judgement (List Data)
change_values t = elements_or_none (get_member (codes "change") t) >>= at_most most_changes TooManyChanges

-- the changes of a script, in their order
unfoldable pub changes_of : ℕ → ℕ → ℕ → Members → Reading (List change)
changes_of pool_max servers vips t = at_path (key_path Top (codes "change")) (change_values t) >>= each_after (change_in pool_max servers vips) []

-- ---- the script

-- the script that a tree spells: its shape, its servers, its virtual addresses, its changes, in this order
unfoldable pub script_in : Members → Reading Spelled
script_in t = do
  _ ← only_known Top top_keys (keys_of t)
  shape ← shape_of t
  servers ← servers_of t
  vips ← vips_of shape.pool_max (length servers) t
  changes ← changes_of shape.pool_max (length servers) (length vips.0) t
  Ok (record { shape = shape; vips = vips.0; servers = servers; first = vips.1; changes = changes })
