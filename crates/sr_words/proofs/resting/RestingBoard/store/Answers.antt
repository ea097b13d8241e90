use Rattle.std.proofs.Common.{refl, subst, sym}
use Rattle.sr_base.specs.WordName.{HasWord}
use Rattle.sr_machine.proofs.Words.{named_there}
use Rattle.sr_machine.specs.Names.{name_for}
use Rattle.sr_machine.specs.declared.op.Op.TheVariants.{Stores}
use Rattle.sr_words.proofs.AtRest.{stays}
use Rattle.sr_words.proofs.Stepping.{fits_after, joined_after, shows_then}
use Rattle.sr_words.proofs.resting.RestingBoard.store.Goals as goal

pub returns-clause-fits : goal.returns-clause-fits
returns-clause-fits c =
    fits_after c.args.self.now.board.words.now.key c.stores.new.self.words.now.key c.args.self.now.board.heard c.args.self.now.board.seat.me.0 c.stores.new.self.seat.me.0 (Stores (name_for c.args.at) c.args.value) c.args.value c.stores.new.self.heard c.stores.ensures.key
    c.stores.ensures.heard c.stores.ensures.made

pub returns-clause-beside : goal.returns-clause-beside
returns-clause-beside c =
    let joined = joined_after c.args.self.now.board.words.now.key c.stores.new.self.words.now.key c.args.self.now.board.heard c.args.self.now.board.seat.me.0 c.stores.new.self.seat.me.0 (Stores (name_for c.args.at) c.args.value) c.args.value c.stores.new.self.heard c.stores.ensures.key
    c.stores.ensures.heard c.stores.ensures.made c.requires.next in cc

pub returns-clause-rest : goal.returns-clause-rest
returns-clause-rest c =
    stays c.args.self.now.board.words.now.key c.every_state_meets_the_invariant.ensures c.args.self.now.board.layout c.args.self.now.board.placed c.args.self.now.board.heard c.args.self.now.board.seat.me.0 c.stores.new.self.seat.me.0 (Stores (name_for c.args.at) c.args.value)
    c.args.value c.stores.ensures.made (subst (HasWord c.args.self.now.board.layout) (sym (named_there c.args.at)) c.requires.named) c.requires.next c.stores.new.self.layout c.stores.ensures.layout refl

pub returns-clause-words : goal.returns-clause-words
returns-clause-words c =
    shows_then c.args.self.now.board.words.now.key c.stores.new.self.words.now.key c.args.self.now.board.heard c.args.self.now.board.seat.me.0 c.stores.new.self.seat.me.0
    (Stores (name_for c.args.at) c.args.value) c.args.value c.stores.new.self.heard c.stores.ensures.key c.stores.ensures.heard c.stores.ensures.made
    c.args.self.now.board.layout c.stores.new.self.layout c.args.self.now.board.placed c.stores.ensures.layout c.requires.next
