use Rattle.sr_base.proofs.RoundTrips.{full_trip}
use Rattle.sr_base.proofs.full_word.full_unpacks.Goals as goal

pub returns-clause-law : goal.returns-clause-law
returns-clause-law c = full_trip
