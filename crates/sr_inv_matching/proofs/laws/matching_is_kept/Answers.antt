use Rattle.sr_inv_matching.proofs.MatchingKept.{matching_begun, matching_events, matching_opens}
use Rattle.sr_inv_matching.proofs.laws.matching_is_kept.Goals as goal

pub returns-clause-opening : goal.returns-clause-opening
returns-clause-opening c = matching_opens

pub returns-clause-begun : goal.returns-clause-begun
returns-clause-begun c = matching_begun

pub returns-clause-event : goal.returns-clause-event
returns-clause-event c = matching_events
