-- A source in memory, and what a read of it gives.
use Rattle.std.specs.Prelude.{ℕ, ◌==◌, min, List, length, drop, if◌then◌else◌}
use Rattle.sr_io.specs.declared.source.Got.{Got}
use Rattle.sr_io.specs.declared.source.Got.TheVariants.{Bytes, End, Failed}

-- the bytes that are left, and the most that one read gives
pub record SureSourceView : Type 0 where
  pub left : List ℕ
  pub piece : ℕ

-- as many bytes as the piece, the buffer's size and those that are left allow
abbrev pub got_of : SureSourceView → ℕ → Got
got_of s size = if length s.left == 0 then End else Bytes (min s.piece (min size (length s.left)))

-- how many bytes an answer takes
abbrev pub count_of : Got → ℕ
count_of (Bytes n) = n
count_of End = 0
count_of Failed = 0

abbrev pub after_read : SureSourceView → Got → SureSourceView
after_read s got = record s { left = drop (count_of got) s.left }
