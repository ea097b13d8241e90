use Rattle.std.proofs.Common.{refl, subst, sym}
use Rattle.sr_base.specs.WordName.{HasWord}
use Rattle.sr_machine.proofs.Words.{named_there}
use Rattle.sr_machine.specs.Names.{name_for}
use Rattle.sr_machine.specs.declared.op.Op.TheVariants.{Swaps}
use Rattle.sr_words.proofs.AtRest.{reports_after, rests_then}
use Rattle.sr_words.proofs.Stepping.{fits_after, joined_after, shows_then}
use Rattle.sr_words.proofs.resting.RestingBoard.swap.Goals as goal

pub returns-clause-fits : goal.returns-clause-fits
returns-clause-fits c =
    fits_after c.args.self.now.board.words.now.key c.swaps.new.self.words.now.key c.args.self.now.board.heard c.args.self.now.board.seat.me.0 c.swaps.new.self.seat.me.0 (Swaps (name_for c.args.at) c.args.value) c.swaps.result c.swaps.new.self.heard c.swaps.ensures.key
    c.swaps.ensures.heard c.swaps.ensures.made

pub returns-clause-beside : goal.returns-clause-beside
returns-clause-beside c =
    let joined = joined_after c.args.self.now.board.words.now.key c.swaps.new.self.words.now.key c.args.self.now.board.heard c.args.self.now.board.seat.me.0 c.swaps.new.self.seat.me.0 (Swaps (name_for c.args.at) c.args.value) c.swaps.result c.swaps.new.self.heard c.swaps.ensures.key
    c.swaps.ensures.heard c.swaps.ensures.made c.requires.next in cc

pub returns-clause-rest : goal.returns-clause-rest
returns-clause-rest c =
    rests_then c.args.self.now.board.words.now.key c.every_state_meets_the_invariant.ensures c.args.self.now.board.layout c.args.self.now.board.placed c.args.self.now.board.heard c.args.self.now.board.seat.me.0 c.swaps.new.self.seat.me.0 (Swaps (name_for c.args.at) c.args.value)
    c.swaps.result c.swaps.ensures.made (subst (HasWord c.args.self.now.board.layout) (sym (named_there c.args.at)) c.requires.named) c.requires.next c.swaps.new.self.layout c.swaps.ensures.layout

pub returns-clause-reports : goal.returns-clause-reports
returns-clause-reports c =
    reports_after c.args.self.now.board.words.now.key c.every_state_meets_the_invariant.ensures c.args.self.now.board.layout c.args.self.now.board.placed c.args.self.now.board.heard c.args.self.now.board.seat.me.0 c.swaps.new.self.seat.me.0 (Swaps (name_for c.args.at) c.args.value)
    c.swaps.result c.swaps.ensures.made (subst (HasWord c.args.self.now.board.layout) (sym (named_there c.args.at)) c.requires.named) c.requires.next c.args.at c.args.value refl

pub returns-clause-words : goal.returns-clause-words
returns-clause-words c =
    shows_then c.args.self.now.board.words.now.key c.swaps.new.self.words.now.key c.args.self.now.board.heard c.args.self.now.board.seat.me.0 c.swaps.new.self.seat.me.0
    (Swaps (name_for c.args.at) c.args.value) c.swaps.result c.swaps.new.self.heard c.swaps.ensures.key c.swaps.ensures.heard c.swaps.ensures.made
    c.args.self.now.board.layout c.swaps.new.self.layout c.args.self.now.board.placed c.swaps.ensures.layout c.requires.next
