use Rattle.std.proofs.Common.{◌≡◌, ℕ, ap}
use Rattle.sr_machine.specs.Names.{name_for}
use Rattle.sr_machine.specs.declared.name.Name.{Name}
use Rattle.sr_machine.specs.declared.op.Op.{Op}
use Rattle.sr_machine.specs.declared.op.Op.TheVariants.{Adds, Loads, Ors, Stores, Swaps}
use Rattle.sr_plain.proofs.Rests.{Stepped, add_rests, answer_is, load_rests, quiet_note, shown_by, stepped_by, store_rests, swap_reports, swap_rests}
use Rattle.sr_plain.proofs.plain_actor.PlainActorBoard.or.Goals as goal

pub returns-clause-words : goal.returns-clause-words
returns-clause-words c =
    shown_by c.args.self.now.board.now c.board.inside.words c.make.new.self (Ors c.name_of.result c.args.bits) (Ors (name_for c.args.at) c.args.bits) c.make.result (cc) (ap (λ (n : Name). Ors n c.args.bits) c.name_of.ensures) c.make.ensures.answer
    (stepped_by c.args.self.now.board.now c.board.inside.words c.make.new.self (Ors c.name_of.result c.args.bits) (Ors (name_for c.args.at) c.args.bits) (cc) (ap (λ (n : Name). Ors n c.args.bits) c.name_of.ensures) c.make.ensures.layout c.make.ensures.words)
