use Rattle.std.proofs.Common.{take, ap, sym, ◌/◌, ◌%◌, ◌∙◌, arith}
use Rattle.sr_marks.specs.Marks.{count_set}
use Rattle.sr_marks.proofs.Bits.{word-within, word-read}
use Rattle.sr_marks.proofs.flags.Flags.count_before.Goals as goal

pub index-requires : goal.index-requires
index-requires c = omega (arith, word-within c.self.inside.words.items c.args.self.now c.args.at c.self.view_is c.requires)

pub returns : goal.returns
returns c =
    let inside = word-within c.self.inside.words.items c.args.self.now c.args.at c.self.view_is c.requires in
    c.count_below.ensures ∙ ap (λ ms. count_set (take (c.args.at % 64) ms)) (sym (word-read c.self.inside.words.items c.args.self.now (c.args.at / 64) c.index.result.now c.self.view_is inside c.index.ensures))
