use Rattle.sr_inv_facts.proofs.Keeping.{begun_keeps, events_keep}
use Rattle.sr_inv_facts.specs.InFlight.{OverKeyed}
use Rattle.sr_inv_flight.proofs.OverKeys.{over_keep, over_open, over_part}
use Rattle.sr_inv_flight.proofs.laws.over_keys_are_kept.Goals as goal

pub returns-clause-opening : goal.returns-clause-opening
returns-clause-opening c = over_open

pub returns-clause-begun : goal.returns-clause-begun
returns-clause-begun c = begun_keeps OverKeyed over_part over_keep

pub returns-clause-event : goal.returns-clause-event
returns-clause-event c = events_keep OverKeyed over_part over_keep
