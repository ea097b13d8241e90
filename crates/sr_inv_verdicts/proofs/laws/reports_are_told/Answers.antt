use Rattle.sr_inv_facts.proofs.Keeping.{begun_keeps, events_keep}
use Rattle.sr_inv_verdicts.proofs.ReportsKept.{reports_keep, reports_open, reports_part}
use Rattle.sr_inv_verdicts.specs.Caused.{ReportsTold}
use Rattle.sr_inv_verdicts.proofs.laws.reports_are_told.Goals as goal

pub returns-clause-opening : goal.returns-clause-opening
returns-clause-opening c = reports_open

pub returns-clause-begun : goal.returns-clause-begun
returns-clause-begun c = begun_keeps ReportsTold reports_part reports_keep

pub returns-clause-event : goal.returns-clause-event
returns-clause-event c = events_keep ReportsTold reports_part reports_keep
