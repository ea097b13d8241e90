use Rattle.sr_inv_clauses.proofs.NewerPools.{newer_keep, newer_open, newer_part}
use Rattle.sr_inv_clauses.specs.Clauses.{PoolsNewer}
use Rattle.sr_inv_facts.proofs.Keeping.{begun_keeps, events_keep}
use Rattle.sr_inv_clauses.proofs.laws.pools_are_newer.Goals as goal

pub returns-clause-opening : goal.returns-clause-opening
returns-clause-opening c = newer_open

pub returns-clause-begun : goal.returns-clause-begun
returns-clause-begun c = begun_keeps PoolsNewer newer_part newer_keep

pub returns-clause-event : goal.returns-clause-event
returns-clause-event c = events_keep PoolsNewer newer_part newer_keep
