use Rattle.sr_law.proofs.Clauses.{meets, none_broken}
use Rattle.sr_law.proofs.laws.breaks_none.Goals as goal

pub returns : goal.returns
returns g c = (meets c.args.setup.now g.endings c.args.before.now c.args.line.now, none_broken c.args.setup.now g.endings c.args.before.now c.args.line.now)
