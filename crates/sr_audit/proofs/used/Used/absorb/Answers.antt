use Rattle.sr_audit.proofs.Using.{no_sweep, swept_on, used_on}
use Rattle.std.proofs.Common.{reverse}
use Rattle.sr_audit.proofs.used.Used.absorb.Goals as goal

pub returns-in_ok-advance : goal.returns-in_ok-advance
returns-in_ok-advance c = rw c.in-Swept.is
    (swept_on c.args.self.now c.advance.new.self c.args.before.now c.in-Swept.number c.in-Swept.from c.in-Swept.to c.in-Swept.at_ms
    c.in_ok-advance.ensures.used c.in_ok-advance.ensures.stops)

pub returns-in_default : goal.returns-in_default
returns-in_default c = used_on c.args.self.now (reverse c.args.before.now) c.args.line.now (no_sweep c.args.line.now c.in_default.not-Swept)
