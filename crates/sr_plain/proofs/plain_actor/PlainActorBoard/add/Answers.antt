use Rattle.std.proofs.Common.{◌≡◌, ℕ, ap}
use Rattle.sr_machine.specs.Names.{name_for}
use Rattle.sr_machine.specs.declared.name.Name.{Name}
use Rattle.sr_machine.specs.declared.op.Op.{Op}
use Rattle.sr_machine.specs.declared.op.Op.TheVariants.{Adds, Loads, Ors, Stores, Swaps}
use Rattle.sr_plain.proofs.Rests.{Stepped, add_rests, answer_is, load_rests, quiet_note, shown_by, stepped_by, store_rests, swap_reports, swap_rests}
use Rattle.sr_plain.proofs.plain_actor.PlainActorBoard.add.Goals as goal

pub returns-clause-rest : goal.returns-clause-rest
returns-clause-rest c =
    add_rests c.args.self.now.board.now c.make.new.self (name_for c.args.at) c.args.by
    (stepped_by c.args.self.now.board.now c.board.inside.words c.make.new.self (Adds c.name_of.result c.args.by) (Adds (name_for c.args.at) c.args.by) (cc) (ap (λ (n : Name). Adds n c.args.by) c.name_of.ensures) c.make.ensures.layout c.make.ensures.words) c.args.self.now.actor c.requires.next
