use Rattle.std.proofs.Common.{rules}
use Rattle.sr_shadow.proofs.Places.{holder_left}
use Rattle.sr_shadow.proofs.holders.Holders.leave.Goals as goal

pub returns-clause-left : goal.returns-clause-left
returns-clause-left c = search (rules, c.vacate.ensures.held, holder_left)
