use Rattle.std.proofs.Common.{refl, subst, sym}
use Rattle.sr_base.specs.WordName.{HasWord}
use Rattle.sr_machine.proofs.Words.{named_there}
use Rattle.sr_machine.specs.Names.{name_for}
use Rattle.sr_machine.specs.declared.op.Op.TheVariants.{Ors}
use Rattle.sr_words.proofs.AtRest.{stays}
use Rattle.sr_words.proofs.Stepping.{fits_after, joined_after, shows_then}
use Rattle.sr_words.proofs.resting.RestingBoard.or.Goals as goal

pub returns-clause-fits : goal.returns-clause-fits
returns-clause-fits c =
    fits_after c.args.self.now.board.words.now.key c.ors.new.self.words.now.key c.args.self.now.board.heard c.args.self.now.board.seat.me.0 c.ors.new.self.seat.me.0 (Ors (name_for c.args.at) c.args.bits) c.ors.result c.ors.new.self.heard c.ors.ensures.key
    c.ors.ensures.heard c.ors.ensures.made

pub returns-clause-beside : goal.returns-clause-beside
returns-clause-beside c =
    let joined = joined_after c.args.self.now.board.words.now.key c.ors.new.self.words.now.key c.args.self.now.board.heard c.args.self.now.board.seat.me.0 c.ors.new.self.seat.me.0 (Ors (name_for c.args.at) c.args.bits) c.ors.result c.ors.new.self.heard c.ors.ensures.key
    c.ors.ensures.heard c.ors.ensures.made c.requires.next in cc

pub returns-clause-rest : goal.returns-clause-rest
returns-clause-rest c =
    stays c.args.self.now.board.words.now.key c.every_state_meets_the_invariant.ensures c.args.self.now.board.layout c.args.self.now.board.placed c.args.self.now.board.heard c.args.self.now.board.seat.me.0 c.ors.new.self.seat.me.0 (Ors (name_for c.args.at) c.args.bits)
    c.ors.result c.ors.ensures.made (subst (HasWord c.args.self.now.board.layout) (sym (named_there c.args.at)) c.requires.named) c.requires.next c.ors.new.self.layout c.ors.ensures.layout refl

pub returns-clause-words : goal.returns-clause-words
returns-clause-words c =
    shows_then c.args.self.now.board.words.now.key c.ors.new.self.words.now.key c.args.self.now.board.heard c.args.self.now.board.seat.me.0 c.ors.new.self.seat.me.0
    (Ors (name_for c.args.at) c.args.bits) c.ors.result c.ors.new.self.heard c.ors.ensures.key c.ors.ensures.heard c.ors.ensures.made
    c.args.self.now.board.layout c.ors.new.self.layout c.args.self.now.board.placed c.ors.ensures.layout c.requires.next
