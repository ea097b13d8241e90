use Rattle.sr_inv_facts.proofs.Keeping.{begun_keeps, events_keep}
use Rattle.sr_inv_facts.specs.InFilter.{PendingKept}
use Rattle.sr_inv_filter.proofs.PendingKeys.{pending_keep, pending_open, pending_part}
use Rattle.sr_inv_filter.proofs.laws.pending_keys_are_kept.Goals as goal

pub returns-clause-opening : goal.returns-clause-opening
returns-clause-opening c = pending_open

pub returns-clause-begun : goal.returns-clause-begun
returns-clause-begun c = begun_keeps PendingKept pending_part pending_keep

pub returns-clause-event : goal.returns-clause-event
returns-clause-event c = events_keep PendingKept pending_part pending_keep
