use Rattle.std.proofs.Common.{nat_eq, ap, sym, ◌∙◌}
use Rattle.std.proofs.lemmas.Nat.Bits.{shr_and_one}
use Rattle.sr_marks.proofs.Bits.{get_or-bits_of}
use Rattle.sr_marks.proofs.word.has_bit.Goals as goal

pub returns : goal.returns
returns c = ap (λ b. nat_eq b 1) (shr_and_one c.args.word c.args.bit) ∙ sym (get_or-bits_of 64 c.args.word c.args.bit c.requires)
