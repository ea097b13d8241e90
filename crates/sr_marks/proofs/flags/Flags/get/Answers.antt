use Rattle.std.proofs.Common.{false, get_or, ap, sym, ◌/◌, ◌%◌, ◌∙◌, arith}
use Rattle.sr_marks.proofs.Bits.{word-within, word-read}
use Rattle.sr_marks.proofs.Wording.{get_or-in_word}
use Rattle.sr_marks.proofs.flags.Flags.get.Goals as goal

pub index-requires : goal.index-requires
index-requires c = omega (arith, word-within c.self.inside.words.items c.args.self.now c.args.at c.self.view_is c.requires)

pub returns : goal.returns
returns c =
    let inside = word-within c.self.inside.words.items c.args.self.now c.args.at c.self.view_is c.requires in
    let word = word-read c.self.inside.words.items c.args.self.now (c.args.at / 64) c.index.result.now c.self.view_is inside c.index.ensures in
    c.has_bit.ensures ∙ (ap (λ ms. get_or ms (c.args.at % 64) false) (sym word) ∙ get_or-in_word c.args.self.now c.args.at)
