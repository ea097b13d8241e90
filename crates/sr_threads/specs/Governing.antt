-- The controller with its board, and what becomes of both by turns.
use Rattle.std.specs.Prelude.{◌≡◌}
use Rattle.sr_ctl.specs.SeenController.{IsFor, SeenController}
use Rattle.sr_machine.specs.Boards.{Beside}
use Rattle.sr_machine.specs.Config.{Config}
use Rattle.sr_machine.specs.declared.view.View.{View}
use Rattle.sr_words.specs.Besides.{beside_of}
use Rattle.sr_words.specs.Steps.{FitsSeat}
use Rattle.sr_words.specs.declared.word_board.WordBoard.{WordBoard}

-- the views that a board fits
abbrev pub Fits : WordBoard → Config → View → Type 0
Fits b k x = FitsSeat b.words.now.key b.seat.me.0 b.heard k x

-- what it belongs to
abbrev pub beside : WordBoard → Beside
beside b = beside_of b.layout b.seat.table_id b.seat.me.0

-- the board is the controller's
abbrev pub Governs : WordBoard → SeenController → Type 0
Governs b c = IsFor (Fits b) (beside b) c

-- Turns were made: the board fits what the controller knows then, and belongs where it did. The clock stands still.
pub record Governed (a : WordBoard) (c : SeenController) (b : WordBoard) (d : SeenController) : Type 0 where
  pub config : d.config ≡ c.config
  pub board : Governs b d
  pub belongs : beside b ≡ beside a
  pub clock : d.view.clock ≡ c.view.clock
