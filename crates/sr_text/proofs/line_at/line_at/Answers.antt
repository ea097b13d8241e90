use Rattle.sr_text.proofs.Logs.{line_at_is}
use Rattle.sr_text.proofs.line_at.line_at.Goals as goal

pub returns : goal.returns
returns c = line_at_is c.args.bytes.now c.line_front.result c.line_front.ensures
