use Rattle.sr_inv_track.proofs.TrackKept.{track_begun, track_events, track_opens}
use Rattle.sr_inv_track.proofs.laws.track_is_kept.Goals as goal

pub returns-clause-opening : goal.returns-clause-opening
returns-clause-opening c = track_opens

pub returns-clause-begun : goal.returns-clause-begun
returns-clause-begun c = track_begun

pub returns-clause-event : goal.returns-clause-event
returns-clause-event c = track_events
