-- Events that lead to a state go on.
use Rattle.std.proofs.Common.{◌≡◌, List, [], ◌∷◌, ◌++◌, option_and_then, Option, Some, None, ap, ◌∙◌}
use Rattle.std.proofs.lemmas.Option.{same_Some}
use Rattle.sr_inv_facts.proofs.Lists.{all_more}
use Rattle.sr_inv_facts.specs.Fitted.{IsPacket}
use Rattle.sr_inv_final.specs.Reached.{IsReached}
use Rattle.sr_machine.specs.Config.{Config}
use Rattle.sr_machine.specs.Core.{Core, opening, run, step_event}
use Rattle.sr_machine.specs.Keeping.{Brings}
use Rattle.sr_machine.specs.declared.event.Event.{Event}

-- a run goes on
run_on : (events : List Event) (e : Event) (s t u : Core) → run events s ≡ Some t → step_event e t ≡ Some u → run (events ++ e ∷ []) s ≡ Some u
run_on [] e s t u q next = ap (λ o. option_and_then (run []) o) (ap (step_event e) (same_Some s t q) ∙ next)
run_on (first ∷ rest) e s t u q next = by (step_event first s) q (λ v. run_on rest e v t u)
  where
    by : (o : Option Core) → option_and_then (run rest) o ≡ Some t
        → ((v : Core) → run rest v ≡ Some t → step_event e t ≡ Some u → run (rest ++ e ∷ []) v ≡ Some u)
        → option_and_then (run (rest ++ e ∷ [])) o ≡ Some u
    by None q more = cc
    by (Some v) q more = more v q next

pub reached_more : (k : Config) (s t : Core) (e : Event) → IsReached k s → Brings IsPacket e → step_event e s ≡ Some t → IsReached k t
reached_more k s t e h a q = record {
  events = h.events ++ e ∷ [];
  leads = run_on h.events e (opening k) s t h.leads q;
  packets = all_more (Brings IsPacket) h.events (e ∷ []) h.packets (a, tt);
}
