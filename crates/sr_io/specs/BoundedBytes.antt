-- Bytes of which there is room for so many.
use Rattle.std.specs.Prelude.{ℕ, ◌-◌, List, length}

pub record BoundedBytesView : Type 0 where
  pub bytes : List ℕ
  pub room : ℕ

-- how many more bytes there is room for
abbrev pub room_left : BoundedBytesView → ℕ
room_left b = b.room - length b.bytes
