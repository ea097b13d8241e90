use Rattle.sr_machine.specs.Names.{name_for}
use Rattle.sr_machine.specs.declared.op.Op.TheVariants.{Loads}
use Rattle.sr_words.proofs.Stepping.{fits_after, joined_after}
use Rattle.sr_words.proofs.word_board.WordBoardBoard.load.Goals as goal

pub returns-clause-fits : goal.returns-clause-fits
returns-clause-fits c =
    fits_after c.args.self.now.words.now.key c.loads.new.self.words.now.key c.args.self.now.heard c.args.self.now.seat.me.0 c.loads.new.self.seat.me.0 (Loads (name_for c.args.at)) c.loads.result c.loads.new.self.heard c.loads.ensures.key c.loads.ensures.heard c.loads.ensures.made

pub returns-clause-beside : goal.returns-clause-beside
returns-clause-beside c =
    let joined = joined_after c.args.self.now.words.now.key c.loads.new.self.words.now.key c.args.self.now.heard c.args.self.now.seat.me.0 c.loads.new.self.seat.me.0 (Loads (name_for c.args.at)) c.loads.result c.loads.new.self.heard c.loads.ensures.key c.loads.ensures.heard c.loads.ensures.made c.requires.next in cc
