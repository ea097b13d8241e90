use Rattle.sr_inv_clauses.proofs.FreeNumbers.{number_keep, number_open, number_part}
use Rattle.sr_inv_clauses.specs.Clauses.{NumbersFree}
use Rattle.sr_inv_facts.proofs.Keeping.{begun_keeps, events_keep}
use Rattle.sr_inv_clauses.proofs.laws.numbers_are_free.Goals as goal

pub returns-clause-opening : goal.returns-clause-opening
returns-clause-opening c = number_open

pub returns-clause-begun : goal.returns-clause-begun
returns-clause-begun c = begun_keeps NumbersFree number_part number_keep

pub returns-clause-event : goal.returns-clause-event
returns-clause-event c = events_keep NumbersFree number_part number_keep
