use Rattle.std.proofs.Common.{arith}
use Rattle.sr_marks.proofs.Bits.{some-bits_of}
use Rattle.sr_marks.proofs.word.is_some.Goals as goal

pub returns : goal.returns
returns c = some-bits_of c.args.word (omega (arith, c.ranges.word.fits))
