use Rattle.sr_inv_openings.proofs.OpeningsKept.{openings_begun, openings_event, openings_open}
use Rattle.sr_inv_openings.proofs.laws.openings_are_kept.Goals as goal

pub returns-clause-opening : goal.returns-clause-opening
returns-clause-opening c = openings_open

pub returns-clause-begun : goal.returns-clause-begun
returns-clause-begun c = openings_begun

pub returns-clause-event : goal.returns-clause-event
returns-clause-event c = openings_event
