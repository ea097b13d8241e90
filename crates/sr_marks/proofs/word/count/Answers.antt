use Rattle.std.proofs.Common.{arith, sym}
use Rattle.sr_marks.proofs.Bits.{count-bits_of}
use Rattle.sr_marks.proofs.word.count.Goals as goal

pub returns : goal.returns
returns c = sym (count-bits_of 64 c.args.word (omega (arith, c.ranges.word.fits)))
