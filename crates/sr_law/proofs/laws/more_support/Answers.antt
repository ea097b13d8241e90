use Rattle.sr_law.proofs.Supported.{more}
use Rattle.sr_law.proofs.laws.more_support.Goals as goal

pub returns : goal.returns
returns c = more
