use Rattle.std.proofs.Common.{length, ap, arith}
use Rattle.sr_marks.proofs.Bits.{length-bits_in}
use Rattle.sr_marks.proofs.flags.Flags.len.Goals as goal

pub returns : goal.returns
returns c = let long = ap length c.self.view_is in omega (arith, length-bits_in c.self.inside.words.items, c.len.ensures)
