use Rattle.sr_machine.specs.Names.{name_for}
use Rattle.sr_machine.specs.declared.op.Op.TheVariants.{Stores}
use Rattle.sr_words.proofs.Stepping.{fits_after, joined_after}
use Rattle.sr_words.proofs.word_board.WordBoardBoard.store.Goals as goal

pub returns-clause-fits : goal.returns-clause-fits
returns-clause-fits c =
    fits_after c.args.self.now.words.now.key c.stores.new.self.words.now.key c.args.self.now.heard c.args.self.now.seat.me.0 c.stores.new.self.seat.me.0 (Stores (name_for c.args.at) c.args.value) c.args.value c.stores.new.self.heard c.stores.ensures.key c.stores.ensures.heard c.stores.ensures.made

pub returns-clause-beside : goal.returns-clause-beside
returns-clause-beside c =
    let joined = joined_after c.args.self.now.words.now.key c.stores.new.self.words.now.key c.args.self.now.heard c.args.self.now.seat.me.0 c.stores.new.self.seat.me.0 (Stores (name_for c.args.at) c.args.value) c.args.value c.stores.new.self.heard c.stores.ensures.key c.stores.ensures.heard c.stores.ensures.made c.requires.next in cc
