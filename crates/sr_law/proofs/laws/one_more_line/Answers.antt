use Rattle.sr_law.proofs.Clauses.{one_more}
use Rattle.sr_law.proofs.laws.one_more_line.Goals as goal

pub returns : goal.returns
returns g c = one_more c.args.setup.now g.endings c.args.lines.now c.args.line.now
