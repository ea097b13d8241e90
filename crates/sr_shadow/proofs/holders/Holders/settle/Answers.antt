use Rattle.std.proofs.Common.{rules}
use Rattle.sr_shadow.proofs.Places.{holder_settled}
use Rattle.sr_shadow.proofs.holders.Holders.settle.Goals as goal

pub returns : goal.returns
returns c = search (rules, c.put.ensures.held, holder_settled)
