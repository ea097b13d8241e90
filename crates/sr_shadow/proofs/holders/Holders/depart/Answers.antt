use Rattle.std.proofs.Common.{rules}
use Rattle.sr_shadow.proofs.Places.{holder_gone}
use Rattle.sr_shadow.proofs.holders.Holders.depart.Goals as goal

pub returns : goal.returns
returns c = search (rules, c.vacate.ensures.held, holder_gone)
