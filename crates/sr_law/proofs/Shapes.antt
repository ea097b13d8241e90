-- A setup whose numbers are in range has a shape that the hashes can take.
use Rattle.std.proofs.Common.{◌≡◌, ℕ, zero, suc, ◌≤◌, Bool, true, false, refl, sym, ◌&&◌, Option, Some, None, arith}
use Rattle.std.specs.Prelude.{nat_le, nat_eq, ◌%◌}
use Rattle.std.proofs.lemmas.Bool.{and_parts, leb-true, false≢true}
use Rattle.std.proofs.lemmas.Option.{none-some}
use Rattle.std.specs.Int.{is_power_of_two}
use Rattle.sr_base.specs.declared.shape.Shape.{Shape}
use Rattle.sr_base.specs.declared.layout.ShapeLimit.{ShapeLimit}
use Rattle.sr_base.specs.declared.layout.ShapeLimit.TheVariants.{Pipes, Buckets, DigestBits, Versions, PoolMax, FullRows, FilterBits, Ring, Window, Idle, Lives, Vips, Servers}
use Rattle.sr_base.specs.Limit.{between, power_up_to, where_in_range, table_limit_of, other_limit_of, or_limit, limit_of}
use Rattle.sr_law.specs.Shaped.{IsShaped}

-- where there is no limit, the number is in its range, and so are the others
range_parts : (test : Bool) (limit : ShapeLimit) (next : Option ShapeLimit) → where_in_range test limit next ≡ None → (test ≡ true) × (next ≡ None)
range_parts true limit next e = (refl, e)
range_parts false limit next e = absurd (none-some limit (sym e))

both_parts : (a b : Option ShapeLimit) → or_limit a b ≡ None → (a ≡ None) × (b ≡ None)
both_parts None b e = (refl, e)
both_parts (Some limit) b e = absurd (none-some limit (sym e))

some_power : (n : ℕ) → is_power_of_two n ≡ true → 1 ≤ n
unfolding lib.Count.ones
some_power zero e = absurd (false≢true e)
some_power (suc n) e = omega arith

of_tables : (s : Shape) → table_limit_of s ≡ None → (1 ≤ s.buckets) × (s.digest_bits ≤ 16)
of_tables s e =
    let pools : Option ShapeLimit = where_in_range (between 1 255 s.pool_max) PoolMax None in
    let versions : Option ShapeLimit = where_in_range (between 2 64 s.versions) Versions pools in
    let digests : Option ShapeLimit = where_in_range (between 0 16 s.digest_bits) DigestBits versions in
    let buckets : Option ShapeLimit = where_in_range (power_up_to 65536 s.buckets) Buckets digests in
    let of_buckets = range_parts (power_up_to 65536 s.buckets) Buckets digests (range_parts (between 1 16 s.pipes) Pipes buckets e).1 in
    let of_digests = range_parts (between 0 16 s.digest_bits) DigestBits versions of_buckets.1 in (
      some_power s.buckets (and_parts (is_power_of_two s.buckets) (nat_le s.buckets 65536) of_buckets.0).0,
      leb-true s.digest_bits 16 (and_parts (nat_le 0 s.digest_bits) (nat_le s.digest_bits 16) of_digests.0).1,
    )

of_others : (s : Shape) (vips servers : ℕ) → other_limit_of s vips servers ≡ None → (1 ≤ s.filter_bits) × (4 ≤ s.full_rows) × (vips ≤ 16)
of_others s vips servers e =
    let of_servers : Option ShapeLimit = where_in_range (between 1 65536 servers) Servers None in
    let of_vips : Option ShapeLimit = where_in_range (between 1 16 vips) Vips of_servers in
    let of_lives : Option ShapeLimit = where_in_range (between 1 255 s.lives) Lives of_vips in
    let of_idle : Option ShapeLimit = where_in_range (between 1 86400000 s.idle_ms) Idle of_lives in
    let of_window : Option ShapeLimit = where_in_range (between 1 60000 s.window_ms) Window of_idle in
    let of_ring : Option ShapeLimit = where_in_range (between 1 65536 s.ring) Ring of_window in
    let of_filter : Option ShapeLimit = where_in_range (power_up_to 1048576 s.filter_bits) FilterBits of_ring in
    let rows = range_parts (between 4 65536 s.full_rows && nat_eq (s.full_rows % 4) 0) FullRows of_filter e in
    let filter = range_parts (power_up_to 1048576 s.filter_bits) FilterBits of_ring rows.1 in
    let ring = range_parts (between 1 65536 s.ring) Ring of_window filter.1 in
    let window = range_parts (between 1 60000 s.window_ms) Window of_idle ring.1 in
    let idle = range_parts (between 1 86400000 s.idle_ms) Idle of_lives window.1 in
    let lives = range_parts (between 1 255 s.lives) Lives of_vips idle.1 in
    let of_vip = range_parts (between 1 16 vips) Vips of_servers lives.1 in
    let in_rows = and_parts (between 4 65536 s.full_rows) (nat_eq (s.full_rows % 4) 0) rows.0 in (
      some_power s.filter_bits (and_parts (is_power_of_two s.filter_bits) (nat_le s.filter_bits 1048576) filter.0).0,
      leb-true 4 s.full_rows (and_parts (nat_le 4 s.full_rows) (nat_le s.full_rows 65536) in_rows.0).0,
      leb-true vips 16 (and_parts (nat_le 1 vips) (nat_le vips 16) of_vip.0).1,
    )

-- the shape of a setup in range, and the number of its virtual addresses
pub shaped : (s : Shape) (vips servers : ℕ) → limit_of s vips servers ≡ None → IsShaped s × (vips ≤ 16)
shaped s vips servers e =
    let parts = both_parts (table_limit_of s) (other_limit_of s vips servers) e in
    let tables = of_tables s parts.0 in
    let others = of_others s vips servers parts.1 in
    (record { buckets = tables.0; digests = tables.1; filter = others.0; rows = others.1 }, others.2)
