-- What a round begins with, over plain words.
use Rattle.std.specs.Prelude.{◌≡◌, ℕ, List}
use Rattle.sr_core.specs.HeldPipe.{HeldPipe}
use Rattle.sr_core.specs.PlainWords.{HeldWords}
use Rattle.sr_ctl.specs.SeenController.{SeenController}
use Rattle.sr_interleave.specs.Acting.{EventMade}
use Rattle.sr_interleave.specs.Together.{held}
use Rattle.sr_machine.specs.declared.event.Event.TheVariants.{Due}

-- The time was told, whatever the pipes know; where the clock is past it, nothing was.
pub record ToldOn (ms : ℕ) (board : HeldWords) (c : SeenController) (new : HeldWords) (d : SeenController) : Type 0 where
  pub told : (pipes : List HeldPipe) → EventMade (Due ms) (held board pipes c) (held new pipes d)
