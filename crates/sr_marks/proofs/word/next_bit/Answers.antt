use Rattle.std.proofs.Common.{arith, sym}
use Rattle.sr_marks.proofs.Bits.{next_bit-none, next_bit-is}
use Rattle.sr_marks.proofs.word.next_bit.Goals as goal

pub returns-then-left-eq0-clause-value : goal.returns-then-left-eq0-clause-value
returns-then-left-eq0-clause-value c = sym (next_bit-none c.args.word c.args.from c.if-left-eq0.true)

pub returns-else-left-eq0-clause-value : goal.returns-else-left-eq0-clause-value
returns-else-left-eq0-clause-value c = sym (next_bit-is c.args.word c.args.from (omega (arith, c.ranges.word.fits)) c.if-left-eq0.false).1

pub returns-else-left-eq0-clause-within : goal.returns-else-left-eq0-clause-within
returns-else-left-eq0-clause-within c = (next_bit-is c.args.word c.args.from (omega (arith, c.ranges.word.fits)) c.if-left-eq0.false).0
