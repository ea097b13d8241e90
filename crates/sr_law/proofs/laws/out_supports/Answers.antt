use Rattle.sr_law.proofs.Supported.{out_is_enough}
use Rattle.sr_law.proofs.laws.out_supports.Goals as goal

pub returns : goal.returns
returns c = out_is_enough
