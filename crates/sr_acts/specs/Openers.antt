-- The held openers in order, and the room that there is for more.
use Rattle.std.specs.Prelude.{ℕ, List}
use Rattle.sr_machine.specs.declared.held_opener.HeldOpener.{HeldOpener}

pub record Openers : Type 0 where
  pub openers : List HeldOpener
  pub room : ℕ
