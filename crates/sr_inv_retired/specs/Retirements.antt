-- The lines of a state meet the clause on sweeps and retirements.
use Rattle.std.specs.Prelude.{◌≡◌, true}
use Rattle.sr_inv_facts.specs.InCauses.{endings_in, setup_of}
use Rattle.sr_inv_order.specs.Meeting.{EachLine}
use Rattle.sr_law.specs.Retire.{meets_retire}
use Rattle.sr_machine.specs.Core.{Core, printed}

-- each sweep is the next one and comes no sooner than the idle time after the last one; a connection that was retired was open and quiet for so many
-- sweeps, or for one where an Ending packet of it entered before, even if its line is still to come
abbrev pub RetirementsKept : Core → Type 0
RetirementsKept s =
    EachLine (λ before l. meets_retire (setup_of s.config) (endings_in s.pipes (printed s)) before l ≡ true) (printed s)
