use Rattle.std.proofs.Common.{◌∙◌}
use Rattle.sr_audit.proofs.Updating.{lasts}
use Rattle.sr_audit.proofs.holds.Holds.is_unfinished.Goals as goal

pub returns : goal.returns
returns c before fall t = c.lasts_at.ensures ∙ lasts before c.args.vip c.args.start c.holding.result fall (c.holding.ensures ∙ t c.args.vip)
