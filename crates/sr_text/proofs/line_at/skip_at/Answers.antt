use Rattle.sr_text.proofs.Logs.{skip_at_is}
use Rattle.sr_text.proofs.line_at.skip_at.Goals as goal

pub returns : goal.returns
returns c = skip_at_is c.args.bytes.now c.skip_front.result c.skip_front.ensures
