use Rattle.std.proofs.Common.{subst, filter, is_some, arith}
use Rattle.std.proofs.lemmas.List.{take_all}
use Rattle.sr_shadow.specs.Roll.{Marked}
use Rattle.sr_shadow.proofs.roll.marks_of.Goals as goal

pub returns-clause-marked : goal.returns-clause-marked
returns-clause-marked c =
    subst (λ ss. Marked c.loop-at.marks (filter (λ s. is_some s.1) ss)) (take_all c.loop-at.at c.args.slots.now.entries (omega arith)) c.loop-at.invariant.marked
