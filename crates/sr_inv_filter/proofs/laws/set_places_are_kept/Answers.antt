use Rattle.sr_inv_facts.proofs.Keeping.{begun_keeps, events_keep}
use Rattle.sr_inv_facts.specs.InFilter.{MarkersKept}
use Rattle.sr_inv_filter.proofs.SetPlaces.{markers_keep, markers_open, markers_part}
use Rattle.sr_inv_filter.proofs.laws.set_places_are_kept.Goals as goal

pub returns-clause-opening : goal.returns-clause-opening
returns-clause-opening c = markers_open

pub returns-clause-begun : goal.returns-clause-begun
returns-clause-begun c = begun_keeps MarkersKept markers_part markers_keep

pub returns-clause-event : goal.returns-clause-event
returns-clause-event c = events_keep MarkersKept markers_part markers_keep
