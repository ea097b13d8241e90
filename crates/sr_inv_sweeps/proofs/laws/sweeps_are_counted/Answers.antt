use Rattle.sr_inv_facts.proofs.Keeping.{begun_keeps, events_keep}
use Rattle.sr_inv_facts.specs.InSweeps.{SweepsAreCounted}
use Rattle.sr_inv_sweeps.proofs.CountsKept.{counts_keep, counts_open}
use Rattle.sr_inv_sweeps.proofs.laws.sweeps_are_counted.Goals as goal

pub returns-clause-opening : goal.returns-clause-opening
returns-clause-opening c = counts_open

pub returns-clause-begun : goal.returns-clause-begun
returns-clause-begun c = begun_keeps SweepsAreCounted (λ s i. i.sweeps.sweeps.counted) counts_keep

pub returns-clause-event : goal.returns-clause-event
returns-clause-event c = events_keep SweepsAreCounted (λ s i. i.sweeps.sweeps.counted) counts_keep
