-- A machine that makes an event of the definitions goes on in a state that meets the invariant.
use Rattle.std.proofs.Common.{◌≡◌, ℕ, Option, Some, None, refl, sym, subst}
use Rattle.sr_core.specs.HeldCore.{HeldCore, StepsTo, state_of}
use Rattle.sr_core.specs.PlainWords.{ShowsWords}
use Rattle.sr_inv.proofs.Joined.{event_meets}
use Rattle.sr_inv_core.specs.Keeps.{Stands, StandsOn}
use Rattle.sr_inv_facts.specs.Fitted.{IsPacket}
use Rattle.sr_inv_facts.specs.Invariant.{Invariant}
use Rattle.sr_machine.specs.Core.{Core, step_event}
use Rattle.sr_machine.specs.Keeping.{Brings}
use Rattle.sr_machine.specs.declared.event.Event.{Event}
use Rattle.sr_machine.specs.declared.name.Name.{Name}
use Rattle.sr_machine.specs.declared.stepped.Stepped.{Stepped}
use Rattle.sr_machine.specs.declared.stepped.Stepped.TheVariants.{Made, NotNow, Memory}

module _ (old new : HeldCore) (words : Name → ℕ) (shown : ShowsWords old.config.layout old.words words) (i : Invariant (state_of old words)) where
  same : new ≡ old → Stands new
  same q = subst Stands (sym q) (state_of old words, (words, shown, refl), i)

  by : (result : Stepped) (o : Option Core) → ((t : Core) → o ≡ Some t → Invariant t) → StepsTo result o old new → Stands new
  by Made (Some t) meets h = (t, h, meets t refl)
  by Made None meets h = absurd h
  by NotNow (Some t) meets h = absurd h
  by NotNow None meets h = same h
  by Memory o meets h = same h

pub stands_on : (old new : HeldCore) (event : Event) (result : Stepped)
    → ((words : Name → ℕ) → ShowsWords old.config.layout old.words words → StepsTo result (step_event event (state_of old words)) old new)
    → Brings IsPacket event
    → StandsOn old new
stands_on old new event result steps a words shown i =
    by old new words shown i result (step_event event (state_of old words)) (λ t q. event_meets (state_of old words) t event i a q) (steps words shown)
