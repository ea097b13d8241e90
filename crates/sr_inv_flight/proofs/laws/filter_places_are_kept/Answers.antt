use Rattle.sr_inv_facts.proofs.Keeping.{begun_keeps, events_keep}
use Rattle.sr_inv_facts.specs.InFlight.{FiltersSet}
use Rattle.sr_inv_flight.proofs.FilterPlaces.{filters_keep, filters_open, filters_part}
use Rattle.sr_inv_flight.proofs.laws.filter_places_are_kept.Goals as goal

pub returns-clause-opening : goal.returns-clause-opening
returns-clause-opening c = filters_open

pub returns-clause-begun : goal.returns-clause-begun
returns-clause-begun c = begun_keeps FiltersSet filters_part filters_keep

pub returns-clause-event : goal.returns-clause-event
returns-clause-event c = events_keep FiltersSet filters_part filters_keep
