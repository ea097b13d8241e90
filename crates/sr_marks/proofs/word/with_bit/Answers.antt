use Rattle.sr_marks.proofs.Bits.{bits_of-set, bits_of-unset}
use Rattle.std.proofs.Common.{ap, set, ◌∙◌, sym}
use Rattle.sr_marks.specs.Words.{bits_of}
use Rattle.sr_marks.proofs.word.with_bit.Goals as goal

pub returns-then-mark : goal.returns-then-mark
returns-then-mark c = bits_of-set c.args.word c.args.bit c.requires ∙ ap (λ m. set (bits_of 64 c.args.word) c.args.bit m) (sym c.if-mark.true)

pub returns-else-mark : goal.returns-else-mark
returns-else-mark c = bits_of-unset c.args.word c.args.bit c.requires ∙ ap (λ m. set (bits_of 64 c.args.word) c.args.bit m) (sym c.if-mark.false)
