-- What a controller is told, with its board.
use Rattle.std.proofs.Common.{◌≡◌, ◌∙◌, ℕ, Bool, true, Some, None, refl, ap, if◌then◌else◌}
use Rattle.std.specs.Prelude.{option_map}
use Rattle.sr_ctl.specs.SeenController.{IsFor, SeenController}
use Rattle.sr_machine.specs.Boards.{Beside, CanBeTold, told_ms, told_refusal}
use Rattle.sr_machine.specs.Config.{Config}
use Rattle.sr_machine.specs.Opening.{opening_controller}
use Rattle.sr_machine.specs.Telling.{is_no_earlier, told_to_refuse}
use Rattle.sr_machine.specs.declared.controller_view.ControllerView.{ControllerView}
use Rattle.sr_machine.specs.declared.job.Job.TheVariants.{Free}
use Rattle.sr_machine.specs.declared.view.View.{View}
use Rattle.sr_machine.specs.declared.view.View.TheVariants.{OfController}

-- no job is set at the beginning
pub opening_free : (k : Config) → (opening_controller k).job ≡ Free
unfolding opening_controller
opening_free k = refl

-- the time that the controller is told, its board can be told
pub can_be_told : (fits : Config → View → Type 0) (beside : Beside) (c : SeenController) (ms : ℕ) → IsFor fits beside c
    → is_no_earlier c.view.clock ms ≡ true
    → CanBeTold fits (told_ms ms)
can_be_told fits beside c ms h e = (
  c.config,
  OfController c.view,
  OfController (record c.view { clock = Some ms }),
  h.view,
  ap (λ b. option_map OfController (if b then Some (record c.view { clock = Some ms }) else None)) e,
)

-- and so it is with a refusal
pub can_refuse : (fits : Config → View → Type 0) (beside : Beside) (c : SeenController) (d : ControllerView) (heard : Bool)
    → IsFor fits beside c
    → heard ≡ true
    → told_to_refuse c.view ≡ (if heard then Some d else None)
    → CanBeTold fits told_refusal
can_refuse fits beside c d heard h is e =
    (c.config, OfController c.view, OfController d, h.view, ap (option_map OfController) (e ∙ ap (λ b. if b then Some d else None) is))
