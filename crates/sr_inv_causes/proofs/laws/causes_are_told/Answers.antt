use Rattle.sr_inv_causes.proofs.Told.{told_keep, told_open, told_part}
use Rattle.sr_inv_causes.specs.Caused.{CausesTold}
use Rattle.sr_inv_facts.proofs.Keeping.{begun_keeps, events_keep}
use Rattle.sr_inv_causes.proofs.laws.causes_are_told.Goals as goal

pub returns-clause-opening : goal.returns-clause-opening
returns-clause-opening c = told_open

pub returns-clause-begun : goal.returns-clause-begun
returns-clause-begun c = begun_keeps CausesTold told_part told_keep

pub returns-clause-event : goal.returns-clause-event
returns-clause-event c = events_keep CausesTold told_part told_keep
