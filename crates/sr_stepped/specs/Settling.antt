-- The turns after the last round, over plain words.
use Rattle.std.specs.Prelude.{◌≡◌, List}
use Rattle.sr_core.specs.HeldPipe.{HeldPipe}
use Rattle.sr_core.specs.PlainWords.{HeldWords}
use Rattle.sr_ctl.specs.SeenController.{SeenController}
use Rattle.sr_interleave.specs.Together.{held}
use Rattle.sr_machine.specs.declared.settled.Settled.{Settled}
use Rattle.sr_machine.specs.declared.settled.Settled.TheVariants.{Memory}
use Rattle.sr_steps.specs.Standing.{SettlesTo}

-- Whatever the pipes know, the turns end so, in a state that all stand for, unless there was no memory.
pub record SettledOver (r : Settled) (board : HeldWords) (c : SeenController) (new : HeldWords) (d : SeenController) : Type 0 where
  pub turns : (r ≡ Memory → ⊥) → (pipes : List HeldPipe) → SettlesTo r (held board pipes c) (held new pipes d)
