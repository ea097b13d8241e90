use Rattle.std.proofs.Common.{length, sym, ◌∙◌}
use Rattle.sr_law.proofs.Breaches.{breach_of-none}
use Rattle.sr_law.proofs.Shapes.{shaped}
use Rattle.sr_audit.proofs.walk.check.Goals as goal

pub breach_of-requires-clause-shape : goal.breach_of-requires-clause-shape
breach_of-requires-clause-shape c =
    let setup = c.args.setup.now in
    (shaped setup.shape (length setup.pools) setup.servers c.requires).0

pub breach_of-requires-clause-vips : goal.breach_of-requires-clause-vips
breach_of-requires-clause-vips c =
    let setup = c.args.setup.now in
    (shaped setup.shape (length setup.pools) setup.servers c.requires).1

pub returns-in-Ok-None : goal.returns-in-Ok-None
returns-in-Ok-None c = (breach_of-none c.args.setup.now c.args.lines.now).0 (sym c.in-Ok-None.ensures ∙ c.in-Ok-None.field-0-is)
