use Rattle.std.proofs.Common.{refl, ◌∙◌}
use Rattle.sr_marks.proofs.Bits.{count-masked}
use Rattle.sr_marks.proofs.word.count_below.Goals as goal

pub returns : goal.returns
returns c = c.count.ensures ∙ count-masked c.args.word c.args.bit _ c.requires refl
