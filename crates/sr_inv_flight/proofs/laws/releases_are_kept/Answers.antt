use Rattle.sr_inv_facts.proofs.Keeping.{begun_keeps, events_keep}
use Rattle.sr_inv_facts.specs.InFlight.{ReleasesPassed}
use Rattle.sr_inv_flight.proofs.ReleasesPass.{releases_keep, releases_open, releases_part}
use Rattle.sr_inv_flight.proofs.laws.releases_are_kept.Goals as goal

pub returns-clause-opening : goal.returns-clause-opening
returns-clause-opening c = releases_open

pub returns-clause-begun : goal.returns-clause-begun
returns-clause-begun c = begun_keeps ReleasesPassed releases_part releases_keep

pub returns-clause-event : goal.returns-clause-event
returns-clause-event c = events_keep ReleasesPassed releases_part releases_keep
