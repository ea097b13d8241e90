use Rattle.sr_base.proofs.RoundTrips.{ring_trip}
use Rattle.sr_base.proofs.ring_word.ring_unpacks.Goals as goal

pub returns-clause-law : goal.returns-clause-law
returns-clause-law c = ring_trip
