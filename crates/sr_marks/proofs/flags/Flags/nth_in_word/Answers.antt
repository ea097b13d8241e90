use Rattle.std.proofs.Common.{ap, ◌<◌, length, ◌∙◌, arith}
use Rattle.sr_marks.specs.Marks.{count_set, nth_set}
use Rattle.sr_marks.proofs.Bits.{length-bits_in, word-read}
use Rattle.sr_marks.proofs.flags.Flags.nth_in_word.Goals as goal

pub index-requires : goal.index-requires
index-requires c = let long = ap length c.self.view_is in omega (arith, length-bits_in c.self.inside.words.items, c.requires.within)

pub nth_bit-requires : goal.nth_bit-requires
nth_bit-requires c =
    let long = ap length c.self.view_is in
    let inside : c.args.word < length c.self.inside.words.items = omega (arith, length-bits_in c.self.inside.words.items, c.requires.within) in
    let same = ap count_set (word-read c.self.inside.words.items c.args.self.now c.args.word c.index.result.now c.self.view_is inside c.index.ensures) in
    omega (arith, c.requires.some)

pub returns-clause-value : goal.returns-clause-value
returns-clause-value c =
    let long = ap length c.self.view_is in
    let inside : c.args.word < length c.self.inside.words.items = omega (arith, length-bits_in c.self.inside.words.items, c.requires.within) in
    ap (nth_set c.args.n) (word-read c.self.inside.words.items c.args.self.now c.args.word c.index.result.now c.self.view_is inside c.index.ensures) ∙ c.nth_bit.ensures.value
