use Rattle.sr_law.proofs.Supported.{list_anew}
use Rattle.sr_law.proofs.laws.supported_anew.Goals as goal

pub returns : goal.returns
returns c = list_anew c.args.setup.now c.args.lines.now
