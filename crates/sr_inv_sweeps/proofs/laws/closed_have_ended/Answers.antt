use Rattle.sr_inv_facts.proofs.Keeping.{begun_keeps, events_keep}
use Rattle.sr_inv_facts.specs.InSweeps.{ClosedAre}
use Rattle.sr_inv_sweeps.proofs.ClosedKept.{closed_keep, closed_open}
use Rattle.sr_inv_sweeps.proofs.laws.closed_have_ended.Goals as goal

pub returns-clause-opening : goal.returns-clause-opening
returns-clause-opening c = closed_open

pub returns-clause-begun : goal.returns-clause-begun
returns-clause-begun c = begun_keeps ClosedAre (λ s i. i.sweeps.sweeps.ended) closed_keep

pub returns-clause-event : goal.returns-clause-event
returns-clause-event c = events_keep ClosedAre (λ s i. i.sweeps.sweeps.ended) closed_keep
