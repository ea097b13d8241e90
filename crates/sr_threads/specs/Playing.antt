-- What rounds make of the pipes and of the controller.
use Rattle.std.specs.Prelude.{◌≡◌, List}
use Rattle.sr_base.specs.Layout.{LayoutView}
use Rattle.sr_ctl.specs.SeenController.{SeenController}
use Rattle.sr_inv_ends.specs.Laws.{clock_after}
use Rattle.sr_rounds.specs.declared.round.Round.{Round}
use Rattle.sr_rounds.specs.declared.timed.Timed.{Timed}
use Rattle.sr_threads.specs.Governing.{Governs, beside}
use Rattle.sr_threads.specs.Working.{AllWorked}
use Rattle.sr_threads.specs.declared.worker.Worker.{Worker}
use Rattle.sr_words.specs.declared.word_board.WordBoard.{WordBoard}

-- Each pipe has handled its own of these packets; the controller's board is still its own, and its clock is that of these rounds.
pub record Played (l : LayoutView) (packets : List Timed) (rounds : List Round) (ws : List Worker) (a : WordBoard) (c : SeenController)
    (vs : List Worker) (b : WordBoard) (d : SeenController) : Type 0 where
  pub worked : AllWorked l packets ws vs
  pub config : d.config ≡ c.config
  pub governs : Governs b d
  pub belongs : beside b ≡ beside a
  pub clock : d.view.clock ≡ clock_after c.view.clock rounds
