use Rattle.sr_base.proofs.RoundTrips.{head_trip}
use Rattle.sr_base.proofs.row_head.head_unpacks.Goals as goal

pub returns-clause-law : goal.returns-clause-law
returns-clause-law c = head_trip
