-- The greatest numbers of a layout, each named once.
use Rattle.std.specs.Prelude.{ℕ}

abbrev pub most_pipes : ℕ
most_pipes = 16

abbrev pub most_buckets : ℕ
most_buckets = 65536

abbrev pub most_digest_bits : ℕ
most_digest_bits = 16

abbrev pub most_versions : ℕ
most_versions = 64

abbrev pub most_in_pool : ℕ
most_in_pool = 255

abbrev pub most_full_rows : ℕ
most_full_rows = 65536

abbrev pub most_filter_bits : ℕ
most_filter_bits = 1048576

abbrev pub most_ring_cells : ℕ
most_ring_cells = 65536

abbrev pub most_window_ms : ℕ
most_window_ms = 60000

abbrev pub most_idle_ms : ℕ
most_idle_ms = 86400000

abbrev pub most_lives : ℕ
most_lives = 255

abbrev pub most_vips : ℕ
most_vips = 16

abbrev pub most_servers : ℕ
most_servers = 65536
