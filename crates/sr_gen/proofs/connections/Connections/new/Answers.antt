use Rattle.sr_gen.proofs.Drawing.{stands_first}
use Rattle.sr_gen.proofs.connections.Connections.new.Goals as goal

pub returns : goal.returns
returns c = rw c.new-generator.ensures (stands_first c.args.number)
