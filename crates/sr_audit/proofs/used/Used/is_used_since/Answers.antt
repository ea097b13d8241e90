use Rattle.std.proofs.Common.{◌∙◌}
use Rattle.sr_audit.proofs.Using.{used_asked}
use Rattle.sr_audit.proofs.used.Used.is_used_since.Goals as goal

pub returns : goal.returns
returns c before last fall rise tells e =
    c.reaches.ensures ∙ used_asked c.args.self.now before c.args.c c.args.low last c.key_ranges.ensures fall rise tells e
