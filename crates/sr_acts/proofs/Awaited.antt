-- The entry that an update waits for is the first for which it does.
use Rattle.std.proofs.Common.{◌≡◌, find, refl}
use Rattle.std.specs.Prelude.{option_and_then}
use Rattle.sr_acts.specs.Pending.{awaiting_in, awaits}
use Rattle.sr_base.specs.declared.vip_word.Phase.{Phase}
use Rattle.sr_base.specs.declared.vip_word.Phase.TheVariants.{Steady, Recording, Holding, Transit}
use Rattle.sr_machine.specs.Settling.{awaited_in}
use Rattle.sr_machine.specs.declared.controller_view.ControllerView.{ControllerView}
use Rattle.sr_machine.specs.declared.pool_update.PoolUpdate.{PoolUpdate}

pub awaited_is : (c : ControllerView) (u : PoolUpdate) (p : Phase)
    → awaited_in c u p ≡ option_and_then (λ a. find (awaits a) c.book.entries) (awaiting_in u c.mark p)
awaited_is c u Steady = refl
awaited_is c u Recording = refl
awaited_is c u Holding = refl
awaited_is c u Transit = refl
