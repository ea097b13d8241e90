use Rattle.sr_base.proofs.RoundTrips.{slot_trip}
use Rattle.sr_base.proofs.slot_word.slot_unpacks.Goals as goal

pub returns-clause-law : goal.returns-clause-law
returns-clause-law c = slot_trip
