use Rattle.sr_inv_facts.proofs.Keeping.{begun_keeps, events_keep}
use Rattle.sr_inv_verdicts.proofs.VerdictsKept.{verdicts_keep, verdicts_open, verdicts_part}
use Rattle.sr_inv_verdicts.specs.Caused.{FlightsCaused}
use Rattle.sr_inv_verdicts.proofs.laws.verdicts_have_causes.Goals as goal

pub returns-clause-opening : goal.returns-clause-opening
returns-clause-opening c = verdicts_open

pub returns-clause-begun : goal.returns-clause-begun
returns-clause-begun c = begun_keeps FlightsCaused verdicts_part verdicts_keep

pub returns-clause-event : goal.returns-clause-event
returns-clause-event c = events_keep FlightsCaused verdicts_part verdicts_keep
