use Rattle.sr_inv_facts.proofs.Keeping.{begun_keeps, events_keep}
use Rattle.sr_inv_facts.specs.InFlight.{PhasesKnown}
use Rattle.sr_inv_flight.proofs.KnownPhases.{known_keep, known_open, known_part}
use Rattle.sr_inv_flight.proofs.laws.known_phases_are_kept.Goals as goal

pub returns-clause-opening : goal.returns-clause-opening
returns-clause-opening c = known_open

pub returns-clause-begun : goal.returns-clause-begun
returns-clause-begun c = begun_keeps PhasesKnown known_part known_keep

pub returns-clause-event : goal.returns-clause-event
returns-clause-event c = events_keep PhasesKnown known_part known_keep
