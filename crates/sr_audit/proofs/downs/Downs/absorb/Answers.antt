use Rattle.std.proofs.Common.{Some, refl, sym, ◌∙◌}
use Rattle.sr_audit.proofs.Known.{down_more}
use Rattle.sr_audit.proofs.downs.Downs.absorb.Goals as goal

pub returns-in_ok-insert-in-TakenDown : goal.returns-in_ok-insert-in-TakenDown
returns-in_ok-insert-in-TakenDown c before t = rw c.in-TakenDown.is
    (down_more c.args.self.now c.settle.new.self (record { since = c.insert.new.self; pending = Some c.in-TakenDown.server }) before c.in-TakenDown.out c.in-TakenDown.server
    c.in_ok-settle-in-TakenDown.ensures.settled (sym c.has.ensures.value ∙ c.if-not-has.true) (λ q. c.in_ok-insert-in-TakenDown.ensures.updates.0 q) refl t)
