-- The controller's machine as what the controller knows, with what the machine was made for and the steps that there is room for.
use Rattle.std.specs.Prelude.{ℕ}
use Rattle.sr_machine.specs.Config.{Config}
use Rattle.sr_machine.specs.declared.controller_view.ControllerView.{ControllerView}

pub record HeldController : Type 0 where
  pub config : Config
  pub view : ControllerView
  pub room : ℕ
