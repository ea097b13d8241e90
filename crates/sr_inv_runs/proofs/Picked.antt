-- The state that a run round by round ends in meets the invariant, and its lines break no clause.
use Rattle.std.proofs.Common.{List, subst}
use Rattle.sr_inv.proofs.Joined.{event_meets, invariant_open}
use Rattle.sr_inv_facts.specs.Fitted.{IsFitted}
use Rattle.sr_inv_facts.specs.Invariant.{Invariant}
use Rattle.sr_inv_runs.proofs.Carried.{round_keeps, run_keeps}
use Rattle.sr_inv_runs.proofs.Idle.{AreIdle, opening_idle, rounds_idle, settled_idle}
use Rattle.sr_inv_runs.proofs.Lines.{lines_keep}
use Rattle.sr_inv_runs.specs.Runs.{ActsKeepClauses, ArePackets, LinesKeepClauses, PicksKeepClauses}
use Rattle.sr_machine.proofs.Kept.{reached_config}
use Rattle.sr_machine.specs.Config.{Config}
use Rattle.sr_machine.specs.Core.{Core, opening}
use Rattle.sr_machine.specs.declared.settled.Settled.{Settled}
use Rattle.sr_picks.proofs.Acts.{run_acts}
use Rattle.sr_picks.proofs.Runs.{acts_run_reached}
use Rattle.sr_picks.specs.Run.{RunsByActs}
use Rattle.sr_rounds.specs.declared.timed.Timed.{Timed}

-- the pipes are idle after its last round
pub rounds_end_idle : (k : Config) (packets : List Timed) (r : Settled) (t : Core) → IsFitted k → ArePackets packets
    → (h : RunsByActs k packets r t) → AreIdle h.state
rounds_end_idle k packets r t f a h =
    rounds_idle Invariant (λ s i. i.shape.pipes.count) packets _ (opening k) h.state (round_keeps Invariant event_meets packets a)
    (invariant_open k f) (opening_idle k) h.rounds

-- and at its end
pub acts_idle : (k : Config) (packets : List Timed) (r : Settled) (t : Core) → IsFitted k → ArePackets packets → RunsByActs k packets r t
    → AreIdle t
acts_idle k packets r t f a h = settled_idle h.settles.0 h.state t r (rounds_end_idle k packets r t f a h) h.settles.1

pub acts_keep : ActsKeepClauses
acts_keep k packets r t f a h =
    let i = run_keeps Invariant event_meets k packets r t a (invariant_open k f) h in
    (i, subst (λ c. LinesKeepClauses c t) (reached_config k t (acts_run_reached k packets r t h)) (lines_keep t i (acts_idle k packets r t f a h)))

pub picks_keep : PicksKeepClauses
picks_keep k seed packets r t f a h = acts_keep k packets r t f a (run_acts k seed packets r t h)
