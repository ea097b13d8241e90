use Rattle.sr_acts.proofs.Lists.{drop_next}
use Rattle.sr_acts.proofs.outages.Outages.drop_first.Goals as goal

pub returns-then-self-len : goal.returns-then-self-len
returns-then-self-len c = drop_next c.self.inside.made c.self.inside.outages.items _ c.self.view_is
