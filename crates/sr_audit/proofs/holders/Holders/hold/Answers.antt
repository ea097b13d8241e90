use Rattle.std.proofs.Common.{◌∙◌}
use Rattle.sr_audit.proofs.HeldOpen.{first_holds, none_holds}
use Rattle.sr_audit.proofs.holders.Holders.hold.Goals as goal

pub returns-in-Some : goal.returns-in-Some
returns-in-Some c before tells =
    c.has_version.ensures
    ∙ first_holds c.args.self.now.set before c.args.vip c.args.version tells c.range.result c.next.new.self c.in-Some.holder.now (c.range.ensures.in_range tt) c.in-Some.ensures.steps

pub returns-in-None : goal.returns-in-None
returns-in-None c before tells = none_holds c.args.self.now.set before c.args.vip c.args.version tells c.range.result (c.range.ensures.in_range tt) c.in-None.ensures.steps.0
