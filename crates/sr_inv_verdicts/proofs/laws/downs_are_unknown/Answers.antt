use Rattle.sr_inv_facts.proofs.Keeping.{begun_keeps, events_keep}
use Rattle.sr_inv_verdicts.proofs.DowningKept.{downing_keep, downing_open, downing_part}
use Rattle.sr_inv_verdicts.specs.Caused.{DowningUnknown}
use Rattle.sr_inv_verdicts.proofs.laws.downs_are_unknown.Goals as goal

pub returns-clause-opening : goal.returns-clause-opening
returns-clause-opening c = downing_open

pub returns-clause-begun : goal.returns-clause-begun
returns-clause-begun c = begun_keeps DowningUnknown downing_part downing_keep

pub returns-clause-event : goal.returns-clause-event
returns-clause-event c = events_keep DowningUnknown downing_part downing_keep
