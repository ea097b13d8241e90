use Rattle.std.proofs.Common.{ap}
use Rattle.sr_acts.specs.Openers.{Openers}
use Rattle.sr_acts.proofs.Lists.{drop_next}
use Rattle.sr_acts.proofs.held_openers.HeldOpeners.drop_first.Goals as goal

pub returns-then-self-len-clause-openers : goal.returns-then-self-len-clause-openers
returns-then-self-len-clause-openers c =
    drop_next c.self.inside.answered c.self.inside.openers.items _ (ap (λ (o : Openers). o.openers) c.self.view_is)
