-- Every event keeps when a connection is open: the parts joined.
use Rattle.sr_inv_facts.proofs.Keeping.{begun_keeps, events_keep}
use Rattle.sr_inv_facts.specs.InOpenings.{InOpenings}
use Rattle.sr_inv_facts.specs.Laws.{BegunKeeps, EventsKeep, OpensWith}
use Rattle.sr_inv_openings.proofs.DeadKept.{dead_keep, dead_open, dead_part}
use Rattle.sr_inv_openings.proofs.EntryOpenings.{entry_keep, entry_open, entry_part, entry_begins}
use Rattle.sr_inv_openings.proofs.LearnedKept.{learned_keep, learned_open, learned_part}
use Rattle.sr_inv_openings.proofs.Parts.{DeadAreSilent, EntriesOpened, LearnedAre, PushedAre, ReportedAre}
use Rattle.sr_inv_openings.proofs.PushedKept.{pushed_keep, pushed_open, pushed_part}
use Rattle.sr_inv_openings.proofs.ReportedKept.{reported_keep, reported_open, reported_part}
use Rattle.sr_machine.specs.Core.{Core, opening}
use Rattle.sr_machine.specs.Deciding.{learned}
use Rattle.sr_machine.specs.Keeping.{begun_core}
use Rattle.sr_inv_facts.specs.Putting.{put_core}
use Rattle.sr_machine.specs.declared.put.Put.{Put}
use Rattle.sr_inv_facts.specs.Invariant.{Invariant}
use Rattle.sr_machine.specs.declared.draw.Draw.TheVariants.{Reserved}
use Rattle.sr_machine.specs.declared.job.Job.TheVariants.{Draw, Free}
use Rattle.std.proofs.Common.{◌≡◌}

openings_of : (s : Core) → PushedAre s → LearnedAre s → EntriesOpened s → ReportedAre s → DeadAreSilent s → InOpenings s
openings_of s pushed learned entry reported dead =
    record { openings = record { pushed = pushed; learned = learned; entry = entry; reported = reported; dead = dead } }

pub openings_open : OpensWith InOpenings
openings_open k f =
    openings_of (opening k) (pushed_open k f) (learned_open k f) (entry_open k f) (reported_open k f) (dead_open k f)

pub openings_begun : BegunKeeps InOpenings
openings_begun s i =
    openings_of (begun_core s) (begun_keeps PushedAre pushed_part pushed_keep s i) (begun_keeps LearnedAre learned_part learned_keep s i)
    (begun_keeps EntriesOpened entry_part entry_keep s i) (begun_keeps ReportedAre reported_part reported_keep s i)
    (begun_keeps DeadAreSilent dead_part dead_keep s i)

pub openings_put : (s : Core) (p : Put) → s.controller.job ≡ Free → Invariant s → InOpenings (put_core s p)
openings_put s p free i =
    openings_of (put_core s p) (pushed_part s i) (learned_part s i) (entry_begins s i free (Draw (Reserved p))) (reported_part s i) tt

pub openings_event : EventsKeep InOpenings
openings_event s t e h allowed q =
    openings_of t (events_keep PushedAre pushed_part pushed_keep s t e h allowed q) (events_keep LearnedAre learned_part learned_keep s t e h allowed q)
    (events_keep EntriesOpened entry_part entry_keep s t e h allowed q) (events_keep ReportedAre reported_part reported_keep s t e h allowed q)
    (events_keep DeadAreSilent dead_part dead_keep s t e h allowed q)
