use Rattle.std.proofs.Common.{◌∙◌}
use Rattle.sr_audit.proofs.Updating.{holds}
use Rattle.sr_audit.proofs.holds.Holds.may_hold.Goals as goal

pub returns : goal.returns
returns c before fall t = c.holds_at.ensures ∙ holds before c.args.vip c.args.start c.holding.result fall (c.holding.ensures ∙ t c.args.vip)
