-- What the hashes need of a shape.
use Rattle.std.specs.Prelude.{◌≤◌}
use Rattle.sr_base.specs.declared.shape.Shape.{Shape}

-- there is a bucket, a digest has at most 16 bits, the filter has a bit, and there is a group of rows
pub record IsShaped (shape : Shape) : Type 0 where
  pub buckets : 1 ≤ shape.buckets
  pub digests : shape.digest_bits ≤ 16
  pub filter : 1 ≤ shape.filter_bits
  pub rows : 4 ≤ shape.full_rows
