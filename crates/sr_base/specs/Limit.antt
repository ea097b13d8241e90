-- The ranges of a layout's numbers.
use Rattle.std.specs.Prelude.{ℕ, Bool, ◌&&◌, ◌==◌, ◌%◌, nat_le, if◌then◌else◌, Option, Some, None}
use Rattle.std.specs.Int.{is_power_of_two}
use Rattle.sr_base.specs.Ranges.{most_pipes, most_buckets, most_digest_bits, most_versions, most_in_pool, most_full_rows, most_filter_bits, most_ring_cells, most_window_ms, most_idle_ms, most_lives, most_vips, most_servers}
use Rattle.sr_base.specs.declared.shape.Shape.{Shape}
use Rattle.sr_base.specs.declared.layout.ShapeLimit.{ShapeLimit}
use Rattle.sr_base.specs.declared.layout.ShapeLimit.TheVariants.{Pipes, Buckets, DigestBits, Versions, PoolMax, FullRows, FilterBits, Ring, Window, Idle, Lives, Vips, Servers}

-- from low to high, both included
abbrev pub between : ℕ → ℕ → ℕ → Bool
between low high n = nat_le low n && nat_le n high

-- a power of two, at most this one
abbrev pub power_up_to : ℕ → ℕ → Bool
power_up_to most n = is_power_of_two n && nat_le n most

-- where the number is in range the next one is looked at, and else this is the limit
abbrev pub where_in_range : Bool → ShapeLimit → Option ShapeLimit → Option ShapeLimit
where_in_range test limit next = if test then next else Some limit

-- the first number outside its range, of the sizes of tables and pools
abbrev pub table_limit_of : Shape → Option ShapeLimit
table_limit_of s =
    where_in_range (between 1 most_pipes s.pipes) Pipes
    (where_in_range (power_up_to most_buckets s.buckets) Buckets
    (where_in_range (between 0 most_digest_bits s.digest_bits) DigestBits
    (where_in_range (between 2 most_versions s.versions) Versions
    (where_in_range (between 1 most_in_pool s.pool_max) PoolMax None))))

-- the first number outside its range, of the others
abbrev pub other_limit_of : Shape → ℕ → ℕ → Option ShapeLimit
other_limit_of s vips servers =
    where_in_range (between 4 most_full_rows s.full_rows && (s.full_rows % 4 == 0)) FullRows
    (where_in_range (power_up_to most_filter_bits s.filter_bits) FilterBits
    (where_in_range (between 1 most_ring_cells s.ring) Ring
    (where_in_range (between 1 most_window_ms s.window_ms) Window
    (where_in_range (between 1 most_idle_ms s.idle_ms) Idle
    (where_in_range (between 1 most_lives s.lives) Lives
    (where_in_range (between 1 most_vips vips) Vips
    (where_in_range (between 1 most_servers servers) Servers None)))))))

-- the first limit of these, or else the second
abbrev pub or_limit : Option ShapeLimit → Option ShapeLimit → Option ShapeLimit
or_limit (Some limit) next = Some limit
or_limit None next = next

-- the first number outside its range, in the order of a script
abbrev pub limit_of : Shape → ℕ → ℕ → Option ShapeLimit
limit_of s vips servers = or_limit (table_limit_of s) (other_limit_of s vips servers)
