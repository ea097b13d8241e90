use Rattle.std.proofs.Common.{sym, ◌∙◌}
use Rattle.std.specs.BTreeMap.{get}
use Rattle.std.specs.Ordering.{nat_cmp}
use Rattle.sr_audit.proofs.Greatest.{given_greater}
use Rattle.sr_audit.proofs.greatest_given.GreatestGiven.absorb.Goals as goal

pub returns-in_ok-insert : goal.returns-in_ok-insert
returns-in_ok-insert c before h vip pool = rw c.in-Given.is
    (given_greater (λ q. get nat_cmp c.args.self.now.map q) (λ q. get nat_cmp c.insert.new.self q) before c.in-Given.out c.in-Given.vip c.in-Given.version
    c.in-Given.pool (sym c.reaches.ensures ∙ c.if-not-reaches.true) (λ q. c.in_ok-insert.ensures.updates.0 q) h vip pool)
