use Rattle.std.proofs.Common.{sym, ◌∙◌}
use Rattle.sr_audit.proofs.Greatest.{refused_greater}
use Rattle.sr_audit.proofs.greatest_refused.GreatestRefused.absorb.Goals as goal

pub returns-then-not-reaches : goal.returns-then-not-reaches
returns-then-not-reaches c before h change = rw c.in-Refused.is
    (refused_greater c.args.self.now.change before c.in-Refused.out c.in-Refused.change (sym c.reaches.ensures ∙ c.if-not-reaches.true) h change)
