-- A controller as it is seen: what it was made for, and what it knows.
use Rattle.std.specs.Prelude.{◌≡◌}
use Rattle.sr_machine.specs.Boards.{Beside}
use Rattle.sr_machine.specs.Config.{Config}
use Rattle.sr_machine.specs.declared.controller_view.ControllerView.{ControllerView}
use Rattle.sr_machine.specs.declared.view.View.{View}
use Rattle.sr_machine.specs.declared.view.View.TheVariants.{OfController}

pub record SeenController : Type 0 where
  pub config : Config
  pub view : ControllerView

abbrev pub seen : Config → ControllerView → SeenController
seen k c = record { config = k; view = c }

-- A board is this controller's: it has its layout, and fits what it knows.
pub record IsFor (fits : Config → View → Type 0) (beside : Beside) (c : SeenController) : Type 0 where
  pub layout : beside.layout ≡ c.config.layout
  pub view : fits c.config (OfController c.view)
