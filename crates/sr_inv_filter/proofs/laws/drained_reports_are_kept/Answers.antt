use Rattle.sr_inv_facts.proofs.Keeping.{begun_keeps, events_keep}
use Rattle.sr_inv_facts.specs.InFilter.{DrainedKept}
use Rattle.sr_inv_filter.proofs.DrainedReports.{drained_keep, drained_open, drained_part}
use Rattle.sr_inv_filter.proofs.laws.drained_reports_are_kept.Goals as goal

pub returns-clause-opening : goal.returns-clause-opening
returns-clause-opening c = drained_open

pub returns-clause-begun : goal.returns-clause-begun
returns-clause-begun c = begun_keeps DrainedKept drained_part drained_keep

pub returns-clause-event : goal.returns-clause-event
returns-clause-event c = events_keep DrainedKept drained_part drained_keep
