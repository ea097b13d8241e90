use Rattle.std.proofs.Common.{length}
use Rattle.sr_law.proofs.Shapes.{shaped}
use Rattle.sr_settled.proofs.settled.is_settled.Goals as goal

pub is_settled_waiting-requires-clause-shape : goal.is_settled_waiting-requires-clause-shape
is_settled_waiting-requires-clause-shape c =
    let setup = c.args.setup.now in
    (shaped setup.shape (length setup.pools) setup.servers c.requires).0

pub is_settled_waiting-requires-clause-vips : goal.is_settled_waiting-requires-clause-vips
is_settled_waiting-requires-clause-vips c =
    let setup = c.args.setup.now in
    (shaped setup.shape (length setup.pools) setup.servers c.requires).1
