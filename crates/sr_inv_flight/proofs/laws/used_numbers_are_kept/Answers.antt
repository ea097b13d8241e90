use Rattle.sr_inv_facts.proofs.Keeping.{begun_keeps, events_keep}
use Rattle.sr_inv_facts.specs.InFlight.{NumbersUsed}
use Rattle.sr_inv_flight.proofs.UsedNumbers.{used_keep, used_open, used_part}
use Rattle.sr_inv_flight.proofs.laws.used_numbers_are_kept.Goals as goal

pub returns-clause-opening : goal.returns-clause-opening
returns-clause-opening c = used_open

pub returns-clause-begun : goal.returns-clause-begun
returns-clause-begun c = begun_keeps NumbersUsed used_part used_keep

pub returns-clause-event : goal.returns-clause-event
returns-clause-event c = events_keep NumbersUsed used_part used_keep
