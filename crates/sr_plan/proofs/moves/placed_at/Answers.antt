use Rattle.std.proofs.Common.{◌∙◌, ap, sym}
use Rattle.sr_shadow.specs.Moves.{if_at}
use Rattle.sr_shadow.proofs.Holding.{held_at, kept_own}
use Rattle.sr_plan.proofs.PassingOver.{kept_key}
use Rattle.sr_plan.proofs.moves.placed_at.Goals as goal

pub returns-in-Some-clause-value : goal.returns-in-Some-clause-value
returns-in-Some-clause-value c =
    c.if_at.ensures ∙ ap (if_at c.args.place) c.in-Some.ensures
    ∙ sym (held_at c.args.place c.args.key c.args.indexed.now.book.entries c.indexed_book_rules.ensures.distinct c.indexed_book_rules.ensures.once c.requires)

pub returns-in-Some-clause-own : goal.returns-in-Some-clause-own
returns-in-Some-clause-own c = λ e found.
    kept_own c.args.place c.args.key c.args.indexed.now.book.entries e (sym (ap (if_at c.args.place) c.in-Some.ensures) ∙ (sym c.if_at.ensures ∙ found))

pub returns-in-Some-clause-holder : goal.returns-in-Some-clause-holder
returns-in-Some-clause-holder c = λ e found.
    kept_key c.args.place c.args.key c.args.indexed.now.book.entries e (sym (ap (if_at c.args.place) c.in-Some.ensures) ∙ (sym c.if_at.ensures ∙ found))

pub returns-in-None-clause-value : goal.returns-in-None-clause-value
returns-in-None-clause-value c =
    ap (if_at c.args.place) c.in-None.ensures
    ∙ sym (held_at c.args.place c.args.key c.args.indexed.now.book.entries c.indexed_book_rules.ensures.distinct c.indexed_book_rules.ensures.once c.requires)
