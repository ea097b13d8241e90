use Rattle.sr_inv_facts.proofs.Keeping.{begun_keeps, events_keep}
use Rattle.sr_inv_retired.proofs.RetirementsKept.{retirements_keep, retirements_open, retirements_part}
use Rattle.sr_inv_retired.specs.Retirements.{RetirementsKept}
use Rattle.sr_inv_retired.proofs.laws.retirements_are_kept.Goals as goal

pub returns-clause-opening : goal.returns-clause-opening
returns-clause-opening c = retirements_open

pub returns-clause-begun : goal.returns-clause-begun
returns-clause-begun c = begun_keeps RetirementsKept retirements_part retirements_keep

pub returns-clause-event : goal.returns-clause-event
returns-clause-event c = events_keep RetirementsKept retirements_part retirements_keep
