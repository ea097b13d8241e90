use Rattle.std.proofs.Common.{refl, subst, sym}
use Rattle.sr_base.specs.WordName.{HasWord}
use Rattle.sr_machine.proofs.Words.{named_there}
use Rattle.sr_machine.specs.Names.{name_for}
use Rattle.sr_machine.specs.declared.op.Op.TheVariants.{Loads}
use Rattle.sr_words.proofs.AtRest.{quiet_then, stays}
use Rattle.sr_words.proofs.Stepping.{fits_after, joined_after, shows_then}
use Rattle.sr_words.proofs.resting.RestingBoard.load.Goals as goal

pub returns-clause-fits : goal.returns-clause-fits
returns-clause-fits c =
    fits_after c.args.self.now.board.words.now.key c.loads.new.self.words.now.key c.args.self.now.board.heard c.args.self.now.board.seat.me.0 c.loads.new.self.seat.me.0 (Loads (name_for c.args.at)) c.loads.result c.loads.new.self.heard c.loads.ensures.key
    c.loads.ensures.heard c.loads.ensures.made

pub returns-clause-beside : goal.returns-clause-beside
returns-clause-beside c =
    let joined = joined_after c.args.self.now.board.words.now.key c.loads.new.self.words.now.key c.args.self.now.board.heard c.args.self.now.board.seat.me.0 c.loads.new.self.seat.me.0 (Loads (name_for c.args.at)) c.loads.result c.loads.new.self.heard c.loads.ensures.key
    c.loads.ensures.heard c.loads.ensures.made c.requires.next in cc

pub returns-clause-rest : goal.returns-clause-rest
returns-clause-rest c =
    stays c.args.self.now.board.words.now.key c.every_state_meets_the_invariant.ensures c.args.self.now.board.layout c.args.self.now.board.placed c.args.self.now.board.heard c.args.self.now.board.seat.me.0 c.loads.new.self.seat.me.0 (Loads (name_for c.args.at))
    c.loads.result c.loads.ensures.made (subst (HasWord c.args.self.now.board.layout) (sym (named_there c.args.at)) c.requires.named) c.requires.next c.loads.new.self.layout c.loads.ensures.layout refl

pub returns-clause-quiet : goal.returns-clause-quiet
returns-clause-quiet c r =
    quiet_then c.args.self.now.board.words.now.key c.every_state_meets_the_invariant.ensures c.args.self.now.board.layout c.args.self.now.board.placed c.args.self.now.board.heard c.args.self.now.board.seat.me.0 c.loads.new.self.seat.me.0 (Loads (name_for c.args.at))
    c.loads.result c.loads.ensures.made (subst (HasWord c.args.self.now.board.layout) (sym (named_there c.args.at)) c.requires.named) c.requires.next c.args.at refl r c.requires.named

pub returns-clause-words : goal.returns-clause-words
returns-clause-words c =
    shows_then c.args.self.now.board.words.now.key c.loads.new.self.words.now.key c.args.self.now.board.heard c.args.self.now.board.seat.me.0 c.loads.new.self.seat.me.0
    (Loads (name_for c.args.at)) c.loads.result c.loads.new.self.heard c.loads.ensures.key c.loads.ensures.heard c.loads.ensures.made
    c.args.self.now.board.layout c.loads.new.self.layout c.args.self.now.board.placed c.loads.ensures.layout c.requires.next
