use Rattle.std.proofs.Common.{arith}
use Rattle.sr_update.proofs.Bits.{none_from, next_from}
use Rattle.sr_update.proofs.number_set.first_from.Goals as goal

pub returns-then-rest-eq0 : goal.returns-then-rest-eq0
returns-then-rest-eq0 c = none_from c.args.set c.args.low (omega arith) (c.if-rest-eq0.true)

pub returns : goal.returns
returns c = next_from c.args.set c.args.low (omega arith) (omega (arith, c.ranges.set)) (omega arith)
