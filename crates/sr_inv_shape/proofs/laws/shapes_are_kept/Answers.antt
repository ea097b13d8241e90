use Rattle.sr_inv_facts.proofs.Keeping.{begun_keeps, events_keep}
use Rattle.sr_inv_facts.specs.InShape.{InShape}
use Rattle.sr_inv_shape.proofs.ShapesKept.{shapes_keep}
use Rattle.sr_inv_shape.proofs.ShapesOpen.{shapes_open}
use Rattle.sr_inv_shape.proofs.laws.shapes_are_kept.Goals as goal

pub returns-clause-opening : goal.returns-clause-opening
returns-clause-opening c = shapes_open

pub returns-clause-begun : goal.returns-clause-begun
returns-clause-begun c = begun_keeps InShape (λ s i. i.shape) shapes_keep

pub returns-clause-event : goal.returns-clause-event
returns-clause-event c = events_keep InShape (λ s i. i.shape) shapes_keep
