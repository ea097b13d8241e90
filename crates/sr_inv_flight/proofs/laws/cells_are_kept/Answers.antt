use Rattle.sr_inv_facts.proofs.Keeping.{begun_keeps, events_keep}
use Rattle.sr_inv_facts.specs.InFlight.{CellsFree}
use Rattle.sr_inv_flight.proofs.Cells.{cells_keep, cells_open, cells_part}
use Rattle.sr_inv_flight.proofs.laws.cells_are_kept.Goals as goal

pub returns-clause-opening : goal.returns-clause-opening
returns-clause-opening c = cells_open

pub returns-clause-begun : goal.returns-clause-begun
returns-clause-begun c = begun_keeps CellsFree cells_part cells_keep

pub returns-clause-event : goal.returns-clause-event
returns-clause-event c = events_keep CellsFree cells_part cells_keep
