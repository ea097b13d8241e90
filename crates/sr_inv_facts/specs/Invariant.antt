-- The invariant of the machine: the families joined. Each assumes all the others before a step.
use Rattle.sr_inv_facts.specs.InCauses.{InCauses}
use Rattle.sr_inv_facts.specs.InFilter.{InFilter}
use Rattle.sr_inv_facts.specs.InFlight.{InFlight}
use Rattle.sr_inv_facts.specs.InHeld.{InHeld}
use Rattle.sr_inv_facts.specs.InJobs.{InJobs}
use Rattle.sr_inv_facts.specs.InMatching.{InMatching}
use Rattle.sr_inv_facts.specs.InOpenings.{InOpenings}
use Rattle.sr_inv_facts.specs.InShape.{InShape}
use Rattle.sr_inv_facts.specs.InSweeps.{InSweeps}
use Rattle.sr_inv_facts.specs.InTicks.{InTicks}
use Rattle.sr_inv_facts.specs.InUpdate.{InUpdate}
use Rattle.sr_inv_facts.specs.InWords.{InWords}
use Rattle.sr_inv_facts.specs.OnTrack.{OnTrack}
use Rattle.sr_machine.specs.Core.{Core}
use Rattle.sr_machine.specs.Keeping.{begun_core}

pub record Invariant (s : Core) : Type 0 where
  pub shape : InShape s
  pub words : InWords s
  pub ticks : InTicks s
  pub update : InUpdate s
  pub jobs : InJobs s
  pub flight : InFlight s
  pub matching : InMatching s
  pub filter : InFilter s
  pub openings : InOpenings s
  pub track : OnTrack s
  pub held : InHeld s
  pub sweeps : InSweeps s
  pub causes : InCauses s

-- it holds of the state, and of the one in which the controller has begun its act
pub record Holds (s : Core) : Type 0 where
  pub now : Invariant s
  pub begun : Invariant (begun_core s)
