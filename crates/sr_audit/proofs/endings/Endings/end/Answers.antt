use Rattle.std.proofs.Common.{◌∙◌}
use Rattle.sr_audit.proofs.Ending.{ends_asked}
use Rattle.sr_audit.proofs.endings.Endings.end.Goals as goal

pub returns : goal.returns
returns c all tick tells = c.is_after.ensures ∙ ends_asked c.args.c c.args.retired tick c.args.self.now all c.key_ranges.ensures tells
