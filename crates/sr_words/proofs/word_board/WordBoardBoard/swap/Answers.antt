use Rattle.sr_machine.specs.Names.{name_for}
use Rattle.sr_machine.specs.declared.op.Op.TheVariants.{Swaps}
use Rattle.sr_words.proofs.Stepping.{fits_after, joined_after}
use Rattle.sr_words.proofs.word_board.WordBoardBoard.swap.Goals as goal

pub returns-clause-fits : goal.returns-clause-fits
returns-clause-fits c =
    fits_after c.args.self.now.words.now.key c.swaps.new.self.words.now.key c.args.self.now.heard c.args.self.now.seat.me.0 c.swaps.new.self.seat.me.0 (Swaps (name_for c.args.at) c.args.value) c.swaps.result c.swaps.new.self.heard c.swaps.ensures.key c.swaps.ensures.heard c.swaps.ensures.made

pub returns-clause-beside : goal.returns-clause-beside
returns-clause-beside c =
    let joined = joined_after c.args.self.now.words.now.key c.swaps.new.self.words.now.key c.args.self.now.heard c.args.self.now.seat.me.0 c.swaps.new.self.seat.me.0 (Swaps (name_for c.args.at) c.args.value) c.swaps.result c.swaps.new.self.heard c.swaps.ensures.key c.swaps.ensures.heard c.swaps.ensures.made c.requires.next in cc
