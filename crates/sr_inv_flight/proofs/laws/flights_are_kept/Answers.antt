use Rattle.sr_inv_facts.proofs.Keeping.{begun_keeps, events_keep}
use Rattle.sr_inv_facts.specs.InFlight.{InFlight}
use Rattle.sr_inv_flight.proofs.FlightsKept.{flights_keep, flights_open, flights_part}
use Rattle.sr_inv_flight.proofs.laws.flights_are_kept.Goals as goal

pub returns-clause-opening : goal.returns-clause-opening
returns-clause-opening c = flights_open

pub returns-clause-begun : goal.returns-clause-begun
returns-clause-begun c = begun_keeps InFlight flights_part flights_keep

pub returns-clause-event : goal.returns-clause-event
returns-clause-event c = events_keep InFlight flights_part flights_keep
