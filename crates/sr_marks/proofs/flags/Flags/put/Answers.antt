use Rattle.std.proofs.Common.{arith}
use Rattle.sr_marks.proofs.Bits.{word-within, bits_in-put}
use Rattle.sr_marks.proofs.flags.Flags.put.Goals as goal

pub index-word-requires : goal.index-word-requires
index-word-requires c = omega (arith, word-within c.self.inside.words.items c.args.self.now c.args.at c.self.view_is c.requires)

pub index_mut-requires : goal.index_mut-requires
index_mut-requires c = omega (arith, word-within c.self.inside.words.items c.args.self.now c.args.at c.self.view_is c.requires)

pub returns : goal.returns
returns c = bits_in-put c.self.inside.words.items c.args.self.now c.args.at c.index-word.result.now c.with_bit.result c.args.mark c.self.view_is c.requires c.index-word.ensures c.with_bit.ensures
