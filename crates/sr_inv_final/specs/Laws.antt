-- What is proved of a state at rest.
use Rattle.std.specs.Prelude.{◌≡◌, true, []}
use Rattle.sr_inv_facts.specs.Invariant.{Invariant}
use Rattle.sr_inv_final.specs.Reached.{IsReached, entered_in}
use Rattle.sr_inv_final.specs.Rest.{AreEmpty, AreIdle, IsAtRest, setup_with}
use Rattle.sr_law.specs.Final.{meets_final}
use Rattle.sr_machine.specs.Config.{Config}
use Rattle.sr_machine.specs.Core.{Core, printed}

-- Once nothing is under way in a state that events led to and of which the invariant holds, its lines are those of a whole run.
abbrev pub FinalHolds : Type 0
FinalHolds =
    (k : Config) (s : Core) → (r : IsReached k s) → Invariant s → IsAtRest s
    → meets_final (setup_with k (entered_in r.events)) (printed s) ≡ true

-- A state in which no packet is in hand is at rest where the controller has no opener to answer and would find each ring empty.
abbrev pub EmptyIsAtRest : Type 0
EmptyIsAtRest = (s : Core) → Invariant s → AreIdle s → AreEmpty s → s.controller.held ≡ [] → IsAtRest s
