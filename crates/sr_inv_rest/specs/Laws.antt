-- What is proved of the end of a run round by round, and so of one by picks.
use Rattle.std.specs.Prelude.{ℕ, List}
use Rattle.sr_inv_facts.specs.Fitted.{IsFitted}
use Rattle.sr_inv_facts.specs.Invariant.{Invariant}
use Rattle.sr_inv_final.specs.Rest.{AreIdle, IsAtRest}
use Rattle.sr_inv_runs.specs.Runs.{ArePackets}
use Rattle.sr_machine.specs.Config.{Config}
use Rattle.sr_machine.specs.Core.{Core}
use Rattle.sr_machine.specs.Settling.{Settles}
use Rattle.sr_machine.specs.declared.job.Job.{Job}
use Rattle.sr_machine.specs.declared.job.Job.TheVariants as job
use Rattle.sr_machine.specs.declared.settled.Settled.{Settled}
use Rattle.sr_picks.specs.Run.{RunsByActs, RunsByPicks}
use Rattle.sr_rounds.specs.declared.timed.Timed.{Timed}

-- if the job is a look over the rings, this holds of the pipe that it has come to
abbrev pub OnLook : Job → (ℕ → Type 0) → Type 0
OnLook (job.Look pipe) P = P pipe
OnLook j P = Unit {0}

-- it is no look
abbrev pub NoLook : Job → Type 0
NoLook j = OnLook j (λ pipe. ⊥)

-- no look over the rings is in progress, as between any two turns
abbrev pub AtLeisure : Core → Type 0
AtLeisure s = NoLook s.controller.job

-- where turns end that began at leisure, nothing is under way that a line is still to tell, if no packet is in hand
abbrev pub SettledIsAtRest : Type 0
SettledIsAtRest = (s t : Core) (r : Settled) → AtLeisure s → Settles s r t → Invariant t → AreIdle t → IsAtRest t

-- whoever acts next, a run round by round ends in such a state
abbrev pub ActsEndAtRest : Type 0
ActsEndAtRest =
    (k : Config) (packets : List Timed) (r : Settled) (t : Core) → IsFitted k → ArePackets packets → RunsByActs k packets r t
    → IsAtRest t

-- whatever the seed picks, so does a run by picks
abbrev pub PicksEndAtRest : Type 0
PicksEndAtRest =
    (k : Config) (seed : ℕ) (packets : List Timed) (r : Settled) (t : Core) → IsFitted k → ArePackets packets → RunsByPicks k seed packets r t
    → IsAtRest t
