-- The places of a plan are the tables'.
use Rattle.std.proofs.Common.{◌≡◌, ℕ, List, true}
use Rattle.sr_base.specs.Key.{KeyView}
use Rattle.sr_base.specs.WordName.{HasPlace}
use Rattle.sr_base.specs.declared.place.Place.{Place}
use Rattle.sr_base.specs.declared.place.Place.TheVariants.{Row}
use Rattle.sr_base.specs.declared.shape.Shape.{Shape}
use Rattle.sr_hash.specs.Uses.{is_place_of}
use Rattle.sr_shadow.specs.Plan.{GivesMove, GivesRow, GivesSlot, first_plan}
use Rattle.sr_shadow.specs.declared.entry.Entry.{Entry}
use Rattle.sr_shadow.specs.declared.plan.Plan.{Plan}
use Rattle.sr_shadow.specs.declared.plan.Plan.TheVariants as plan
use Rattle.sr_acts.specs.Fits.{FitsPlan}

module _ (s : Shape) (es : List Entry) (key : KeyView)
    (stand : (k : KeyView) (place : Place) → is_place_of s k place ≡ true → HasPlace s place)
    (slots : (place : Place) → first_plan s es key ≡ plan.Slot place → GivesSlot s es key place)
    (rows : (row : ℕ) → first_plan s es key ≡ plan.FullKey row → GivesRow s es key row)
    (moves : (other : KeyView) (from to last : Place) → first_plan s es key ≡ plan.Move other from to last
    → GivesMove s es key other from to last) where
  pub plan_fits : (p : Plan) → first_plan s es key ≡ p → FitsPlan s p
  plan_fits (plan.Slot place) e = stand key place (slots place e).own
  plan_fits (plan.Move other from to last) e = (stand key from (moves other from to last e).from_own, stand other to (moves other from to last e).to_own)
  plan_fits (plan.FullKey row) e = stand key (Row row) (rows row e).own
  plan_fits plan.NoRoom e = tt
