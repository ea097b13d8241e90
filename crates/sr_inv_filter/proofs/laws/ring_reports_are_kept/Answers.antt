use Rattle.sr_inv_facts.proofs.Keeping.{begun_keeps, events_keep}
use Rattle.sr_inv_facts.specs.InFilter.{ReportsKept}
use Rattle.sr_inv_filter.proofs.RingReports.{reports_keep, reports_open, reports_part}
use Rattle.sr_inv_filter.proofs.laws.ring_reports_are_kept.Goals as goal

pub returns-clause-opening : goal.returns-clause-opening
returns-clause-opening c = reports_open

pub returns-clause-begun : goal.returns-clause-begun
returns-clause-begun c = begun_keeps ReportsKept reports_part reports_keep

pub returns-clause-event : goal.returns-clause-event
returns-clause-event c = events_keep ReportsKept reports_part reports_keep
