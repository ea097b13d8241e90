use Rattle.sr_inv_clauses.proofs.SamePools.{same_keep, same_open, same_part}
use Rattle.sr_inv_clauses.specs.Clauses.{PoolsSame}
use Rattle.sr_inv_facts.proofs.Keeping.{begun_keeps, events_keep}
use Rattle.sr_inv_clauses.proofs.laws.pools_are_same.Goals as goal

pub returns-clause-opening : goal.returns-clause-opening
returns-clause-opening c = same_open

pub returns-clause-begun : goal.returns-clause-begun
returns-clause-begun c = begun_keeps PoolsSame same_part same_keep

pub returns-clause-event : goal.returns-clause-event
returns-clause-event c = events_keep PoolsSame same_part same_keep
