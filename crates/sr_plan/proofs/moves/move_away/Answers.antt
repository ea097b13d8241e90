use Rattle.std.proofs.Common.{refl, sym, ◌∙◌}
use Rattle.sr_plan.proofs.PassingOver.{mover_there, passed_over}
use Rattle.sr_plan.proofs.moves.move_away.Goals as goal

pub returns-in_err-free : goal.returns-in_err-free
returns-in_err-free c =
    c.from_residual.ensures
    ∙ sym (passed_over c.args.layout.now.shape c.args.indexed.now.book.entries c.args.key c.args.holder c.args.way c.args.from c.indexed_book_rules.ensures.distinct c.indexed_book_rules.ensures.once c.requires.held (sym c.in_err-free.ensures))

pub move_of-requires-clause-mover : goal.move_of-requires-clause-mover
move_of-requires-clause-mover c =
    mover_there c.args.indexed.now.book.entries c.args.key c.in-Some.entry.now c.args.from c.requires.slot c.requires.unplaced (sym c.in-Some.ensures.value) (c.in-Some.ensures.own c.in-Some.entry.now refl)
