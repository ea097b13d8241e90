use Rattle.std.proofs.Common.{◌≡◌, ℕ, ap}
use Rattle.sr_machine.specs.Names.{name_for}
use Rattle.sr_machine.specs.declared.name.Name.{Name}
use Rattle.sr_machine.specs.declared.op.Op.{Op}
use Rattle.sr_machine.specs.declared.op.Op.TheVariants.{Adds, Loads, Ors, Stores, Swaps}
use Rattle.sr_plain.proofs.Rests.{Stepped, add_rests, answer_is, load_rests, quiet_note, shown_by, stepped_by, store_rests, swap_reports, swap_rests}
use Rattle.sr_plain.proofs.plain_actor.PlainActorBoard.load.Goals as goal

pub returns-clause-words : goal.returns-clause-words
returns-clause-words c =
    shown_by c.args.self.now.board.now c.board.inside.words c.make.new.self (Loads c.name_of.result) (Loads (name_for c.args.at)) c.make.result (cc) (ap Loads c.name_of.ensures) c.make.ensures.answer
    (stepped_by c.args.self.now.board.now c.board.inside.words c.make.new.self (Loads c.name_of.result) (Loads (name_for c.args.at)) (cc) (ap Loads c.name_of.ensures) c.make.ensures.layout c.make.ensures.words)

pub returns-clause-rest : goal.returns-clause-rest
returns-clause-rest c =
    load_rests c.args.self.now.board.now c.make.new.self (name_for c.args.at)
    (stepped_by c.args.self.now.board.now c.board.inside.words c.make.new.self (Loads c.name_of.result) (Loads (name_for c.args.at)) (cc) (ap Loads c.name_of.ensures) c.make.ensures.layout c.make.ensures.words) c.args.self.now.actor

pub returns-clause-quiet : goal.returns-clause-quiet
returns-clause-quiet c =
    quiet_note c.args.self.now.board.now c.args.self.now.actor c.args.at c.make.result c.requires.named
    (answer_is c.args.self.now.board.now c.board.inside.words c.make.result c.name_of.result c.args.at (cc) c.name_of.ensures c.make.ensures.answer)
