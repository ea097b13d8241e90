use Rattle.sr_law.proofs.Breaches.{breach_of-none}
use Rattle.sr_law.proofs.laws.names_a_breach.Goals as goal

pub returns : goal.returns
returns c = breach_of-none c.args.setup.now c.args.lines.now
