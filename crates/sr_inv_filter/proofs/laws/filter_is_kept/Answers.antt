use Rattle.sr_inv_facts.proofs.Keeping.{begun_keeps, events_keep}
use Rattle.sr_inv_facts.specs.InFilter.{InFilter}
use Rattle.sr_inv_filter.proofs.FilterKept.{filter_keep, filter_open, filter_part}
use Rattle.sr_inv_filter.proofs.laws.filter_is_kept.Goals as goal

pub returns-clause-opening : goal.returns-clause-opening
returns-clause-opening c = filter_open

pub returns-clause-begun : goal.returns-clause-begun
returns-clause-begun c = begun_keeps InFilter filter_part filter_keep

pub returns-clause-event : goal.returns-clause-event
returns-clause-event c = events_keep InFilter filter_part filter_keep
