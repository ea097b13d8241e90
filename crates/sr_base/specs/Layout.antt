-- A layout as its numbers.
use Rattle.std.specs.Prelude.{◌≡◌, ℕ, ◌%◌, ◌≤◌}
use Rattle.std.specs.Int.{IsPowerOfTwo}
use Rattle.sr_base.specs.Ranges.{most_pipes, most_buckets, most_digest_bits, most_versions, most_in_pool, most_full_rows, most_filter_bits, most_ring_cells, most_window_ms, most_idle_ms, most_lives, most_vips, most_servers}
use Rattle.sr_base.specs.declared.shape.Shape.{Shape}

-- how many words of each kind there are
pub record LayoutView : Type 0 where
  pub shape : Shape
  pub vips : ℕ
  pub servers : ℕ

-- what holds of the numbers of every layout
pub record IsLayout (l : LayoutView) : Type 0 where
  pub pipes : (1 ≤ l.shape.pipes) × (l.shape.pipes ≤ most_pipes)
  pub buckets : (1 ≤ l.shape.buckets) × (l.shape.buckets ≤ most_buckets)
  pub buckets_power : IsPowerOfTwo l.shape.buckets
  pub digest_bits : l.shape.digest_bits ≤ most_digest_bits
  pub versions : (2 ≤ l.shape.versions) × (l.shape.versions ≤ most_versions)
  pub pool_max : (1 ≤ l.shape.pool_max) × (l.shape.pool_max ≤ most_in_pool)
  pub full_rows : (4 ≤ l.shape.full_rows) × (l.shape.full_rows ≤ most_full_rows)
  pub full_groups : l.shape.full_rows % 4 ≡ 0
  pub filter_bits : (1 ≤ l.shape.filter_bits) × (l.shape.filter_bits ≤ most_filter_bits)
  pub filter_power : IsPowerOfTwo l.shape.filter_bits
  pub ring : (1 ≤ l.shape.ring) × (l.shape.ring ≤ most_ring_cells)
  pub window_ms : (1 ≤ l.shape.window_ms) × (l.shape.window_ms ≤ most_window_ms)
  pub idle_ms : (1 ≤ l.shape.idle_ms) × (l.shape.idle_ms ≤ most_idle_ms)
  pub lives : (1 ≤ l.shape.lives) × (l.shape.lives ≤ most_lives)
  pub vips : (1 ≤ l.vips) × (l.vips ≤ most_vips)
  pub servers : (1 ≤ l.servers) × (l.servers ≤ most_servers)
