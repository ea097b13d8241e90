use Rattle.std.proofs.Common.{nat_lt, ap, sym, ◌<◌, length, ◌∙◌, arith}
use Rattle.sr_marks.specs.Marks.{count_set}
use Rattle.sr_marks.proofs.Bits.{length-bits_in, word-read}
use Rattle.sr_marks.proofs.flags.Flags.some_in.Goals as goal

pub index-requires : goal.index-requires
index-requires c = let long = ap length c.self.view_is in omega (arith, length-bits_in c.self.inside.words.items)

pub returns : goal.returns
returns c =
    let long = ap length c.self.view_is in
    let inside : c.args.word < length c.self.inside.words.items = omega (arith, length-bits_in c.self.inside.words.items) in
    c.is_some.ensures ∙ ap (λ ms. nat_lt 0 (count_set ms)) (sym (word-read c.self.inside.words.items c.args.self.now c.args.word c.index.result.now c.self.view_is inside c.index.ensures))
