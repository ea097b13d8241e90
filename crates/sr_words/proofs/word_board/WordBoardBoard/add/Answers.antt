use Rattle.sr_machine.specs.Names.{name_for}
use Rattle.sr_machine.specs.declared.op.Op.TheVariants.{Adds}
use Rattle.sr_words.proofs.Stepping.{fits_after, joined_after}
use Rattle.sr_words.proofs.word_board.WordBoardBoard.add.Goals as goal

pub returns-clause-fits : goal.returns-clause-fits
returns-clause-fits c =
    fits_after c.args.self.now.words.now.key c.adds.new.self.words.now.key c.args.self.now.heard c.args.self.now.seat.me.0 c.adds.new.self.seat.me.0 (Adds (name_for c.args.at) c.args.by) c.adds.result c.adds.new.self.heard c.adds.ensures.key c.adds.ensures.heard c.adds.ensures.made

pub returns-clause-beside : goal.returns-clause-beside
returns-clause-beside c =
    let joined = joined_after c.args.self.now.words.now.key c.adds.new.self.words.now.key c.args.self.now.heard c.args.self.now.seat.me.0 c.adds.new.self.seat.me.0 (Adds (name_for c.args.at) c.args.by) c.adds.result c.adds.new.self.heard c.adds.ensures.key c.adds.ensures.heard c.adds.ensures.made c.requires.next in cc
