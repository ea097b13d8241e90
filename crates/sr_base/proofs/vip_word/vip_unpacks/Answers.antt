use Rattle.sr_base.proofs.RoundTrips.{vip_trip}
use Rattle.sr_base.proofs.vip_word.vip_unpacks.Goals as goal

pub returns-clause-law : goal.returns-clause-law
returns-clause-law c = vip_trip
