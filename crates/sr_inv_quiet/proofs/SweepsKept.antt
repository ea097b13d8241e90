-- Every event keeps that connections that were quiet for some sweeps were quiet by the lines: the parts of the family joined.
use Rattle.sr_inv_facts.proofs.Keeping.{begun_keeps, events_keep}
use Rattle.sr_inv_facts.specs.InSweeps.{ClosedAre, InSweeps, QuietAre, SettledAre, SweepsAreCounted, UnplacedAre}
use Rattle.sr_inv_facts.specs.Invariant.{Invariant}
use Rattle.sr_inv_facts.specs.Laws.{BegunKeeps, EventsKeep, OpensWith}
use Rattle.sr_inv_quiet.proofs.QuietKept.{quiet_keep, quiet_open, quiet_part, quiet_put}
use Rattle.sr_inv_quiet.proofs.SettledKept.{settled_keep, settled_open, settled_part, settled_put}
use Rattle.sr_inv_quiet.proofs.UnplacedKept.{unplaced_keep, unplaced_open, unplaced_part}
use Rattle.sr_inv_sweeps.proofs.ClosedKept.{closed_keep, closed_open, closed_put}
use Rattle.sr_inv_sweeps.proofs.CountsKept.{counts_keep, counts_open, counts_put}
use Rattle.sr_machine.specs.Core.{Core, opening}
use Rattle.sr_machine.specs.Keeping.{begun_core}
use Rattle.sr_shadow.specs.Entry.{settled}
use Rattle.sr_inv_facts.specs.Putting.{put_core}
use Rattle.sr_machine.specs.declared.put.Put.{Put}
use Rattle.sr_machine.specs.declared.job.Job.TheVariants.{Free}
use Rattle.std.proofs.Common.{◌≡◌}

sweeps_of : (s : Core) → SweepsAreCounted s → ClosedAre s → QuietAre s → SettledAre s → UnplacedAre s → InSweeps s
sweeps_of s counted ended quiet settled unplaced =
    record { sweeps = record { counted = counted; ended = ended; quiet = quiet; settled = settled; unplaced = unplaced } }

counts_part : (s : Core) → Invariant s → SweepsAreCounted s
counts_part s i = i.sweeps.sweeps.counted

closed_part : (s : Core) → Invariant s → ClosedAre s
closed_part s i = i.sweeps.sweeps.ended

pub sweeps_open : OpensWith InSweeps
sweeps_open k f = sweeps_of (opening k) (counts_open k f) (closed_open k f) (quiet_open k f) (settled_open k f) (unplaced_open k f)

pub sweeps_begun : BegunKeeps InSweeps
sweeps_begun s i =
    sweeps_of (begun_core s) (begun_keeps SweepsAreCounted counts_part counts_keep s i) (begun_keeps ClosedAre closed_part closed_keep s i)
    (begun_keeps QuietAre quiet_part quiet_keep s i) (begun_keeps SettledAre settled_part settled_keep s i)
    (begun_keeps UnplacedAre unplaced_part unplaced_keep s i)

pub sweeps_put : (s : Core) (p : Put) → s.controller.job ≡ Free → Invariant s → InSweeps (put_core s p)
sweeps_put s p free i =
    sweeps_of (put_core s p) (counts_put s p (counts_part s i)) (closed_put s p free (closed_part s i)) (quiet_put s p free i) (settled_put s p free i)
    (unplaced_part s i)

pub sweeps_event : EventsKeep InSweeps
sweeps_event s t e h allowed q =
    sweeps_of t (events_keep SweepsAreCounted counts_part counts_keep s t e h allowed q) (events_keep ClosedAre closed_part closed_keep s t e h allowed q)
    (events_keep QuietAre quiet_part quiet_keep s t e h allowed q) (events_keep SettledAre settled_part settled_keep s t e h allowed q)
    (events_keep UnplacedAre unplaced_part unplaced_keep s t e h allowed q)
