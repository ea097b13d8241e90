use Rattle.sr_law.proofs.Kept.{kept}
use Rattle.sr_law.proofs.laws.keeps_server.Goals as goal

pub returns : goal.returns
returns g c = kept c.args.setup.now g.endings c.args.lines.now c.requires
