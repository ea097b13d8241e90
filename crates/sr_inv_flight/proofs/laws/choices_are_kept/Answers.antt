use Rattle.sr_inv_facts.proofs.Keeping.{begun_keeps, events_keep}
use Rattle.sr_inv_facts.specs.InFlight.{ChoicesHold}
use Rattle.sr_inv_flight.proofs.Choosing.{choices_keep, choices_open, choices_part}
use Rattle.sr_inv_flight.proofs.laws.choices_are_kept.Goals as goal

pub returns-clause-opening : goal.returns-clause-opening
returns-clause-opening c = choices_open

pub returns-clause-begun : goal.returns-clause-begun
returns-clause-begun c = begun_keeps ChoicesHold choices_part choices_keep

pub returns-clause-event : goal.returns-clause-event
returns-clause-event c = events_keep ChoicesHold choices_part choices_keep
