-- The lines that were written, and the room that there is for more.
use Rattle.std.specs.Prelude.{ℕ, List}
use Rattle.sr_law.specs.declared.line.Line.{Line}

pub record HeldLines : Type 0 where
  pub lines : List Line
  pub room : ℕ
