use Rattle.sr_machine.specs.Names.{name_for}
use Rattle.sr_machine.specs.declared.op.Op.TheVariants.{Ors}
use Rattle.sr_words.proofs.Stepping.{fits_after, joined_after}
use Rattle.sr_words.proofs.word_board.WordBoardBoard.or.Goals as goal

pub returns-clause-fits : goal.returns-clause-fits
returns-clause-fits c =
    fits_after c.args.self.now.words.now.key c.ors.new.self.words.now.key c.args.self.now.heard c.args.self.now.seat.me.0 c.ors.new.self.seat.me.0 (Ors (name_for c.args.at) c.args.bits) c.ors.result c.ors.new.self.heard c.ors.ensures.key c.ors.ensures.heard c.ors.ensures.made

pub returns-clause-beside : goal.returns-clause-beside
returns-clause-beside c =
    let joined = joined_after c.args.self.now.words.now.key c.ors.new.self.words.now.key c.args.self.now.heard c.args.self.now.seat.me.0 c.ors.new.self.seat.me.0 (Ors (name_for c.args.at) c.args.bits) c.ors.result c.ors.new.self.heard c.ors.ensures.key c.ors.ensures.heard c.ors.ensures.made c.requires.next in cc
