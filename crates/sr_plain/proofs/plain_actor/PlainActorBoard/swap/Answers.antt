use Rattle.std.proofs.Common.{◌≡◌, ℕ, ap}
use Rattle.sr_machine.specs.Names.{name_for}
use Rattle.sr_machine.specs.declared.name.Name.{Name}
use Rattle.sr_machine.specs.declared.op.Op.{Op}
use Rattle.sr_machine.specs.declared.op.Op.TheVariants.{Adds, Loads, Ors, Stores, Swaps}
use Rattle.sr_plain.proofs.Rests.{Stepped, add_rests, answer_is, load_rests, quiet_note, shown_by, stepped_by, store_rests, swap_reports, swap_rests}
use Rattle.sr_plain.proofs.plain_actor.PlainActorBoard.swap.Goals as goal

pub returns-clause-words : goal.returns-clause-words
returns-clause-words c =
    shown_by c.args.self.now.board.now c.board.inside.words c.make.new.self (Swaps c.name_of.result c.args.value) (Swaps (name_for c.args.at) c.args.value) c.make.result (cc) (ap (λ (n : Name). Swaps n c.args.value) c.name_of.ensures) c.make.ensures.answer
    (stepped_by c.args.self.now.board.now c.board.inside.words c.make.new.self (Swaps c.name_of.result c.args.value) (Swaps (name_for c.args.at) c.args.value) (cc) (ap (λ (n : Name). Swaps n c.args.value) c.name_of.ensures) c.make.ensures.layout c.make.ensures.words)

pub returns-clause-rest : goal.returns-clause-rest
returns-clause-rest c =
    swap_rests c.args.self.now.board.now c.make.new.self c.args.self.now.actor c.args.value c.args.at c.requires.named
    (stepped_by c.args.self.now.board.now c.board.inside.words c.make.new.self (Swaps c.name_of.result c.args.value) (Swaps (name_for c.args.at) c.args.value) (cc) (ap (λ (n : Name). Swaps n c.args.value) c.name_of.ensures) c.make.ensures.layout c.make.ensures.words) c.requires.next

pub returns-clause-reports : goal.returns-clause-reports
returns-clause-reports c =
    swap_reports c.args.self.now.board.now c.make.new.self c.args.self.now.actor c.args.value c.args.at c.make.result c.requires.named
    (answer_is c.args.self.now.board.now c.board.inside.words c.make.result c.name_of.result c.args.at (cc) c.name_of.ensures c.make.ensures.answer)
    (stepped_by c.args.self.now.board.now c.board.inside.words c.make.new.self (Swaps c.name_of.result c.args.value) (Swaps (name_for c.args.at) c.args.value) (cc) (ap (λ (n : Name). Swaps n c.args.value) c.name_of.ensures) c.make.ensures.layout c.make.ensures.words) c.requires.next
