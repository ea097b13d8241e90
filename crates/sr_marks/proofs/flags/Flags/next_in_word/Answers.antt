use Rattle.std.proofs.Common.{ap, sym, ◌/◌, ◌%◌, ◌∙◌, arith}
use Rattle.sr_marks.specs.Marks.{next_set}
use Rattle.sr_marks.proofs.Bits.{word-within, word-read}
use Rattle.sr_marks.proofs.Wording.{next-in_word-some, next-in_word-none}
use Rattle.sr_marks.proofs.flags.Flags.next_in_word.Goals as goal

pub index-requires : goal.index-requires
index-requires c = omega (arith, word-within c.self.inside.words.items c.args.self.now c.args.from c.self.view_is c.requires)

pub returns-in-Some : goal.returns-in-Some
returns-in-Some c =
    let inside = word-within c.self.inside.words.items c.args.self.now c.args.from c.self.view_is c.requires in
    let word = word-read c.self.inside.words.items c.args.self.now (c.args.from / 64) c.index.result.now c.self.view_is inside c.index.ensures in
    sym (next-in_word-some c.args.self.now c.args.from c.in-Some.bit (ap (next_set (c.args.from % 64)) word ∙ (sym c.next_bit.ensures.value ∙ c.in-Some.is)))

pub returns-in-None : goal.returns-in-None
returns-in-None c =
    let inside = word-within c.self.inside.words.items c.args.self.now c.args.from c.self.view_is c.requires in
    let word = word-read c.self.inside.words.items c.args.self.now (c.args.from / 64) c.index.result.now c.self.view_is inside c.index.ensures in
    sym (next-in_word-none c.args.self.now c.args.from (ap (next_set (c.args.from % 64)) word ∙ (sym c.next_bit.ensures.value ∙ c.in-None.is)))
