use Rattle.sr_law.proofs.Switches.{newer}
use Rattle.sr_law.proofs.laws.opens_newer.Goals as goal

pub returns : goal.returns
returns g c = newer c.args.setup.now g.endings c.args.lines.now c.requires
