use Rattle.std.proofs.Common.{refl, sym, ap, ◌∙◌}
use Rattle.sr_shadow.specs.Book.{entry_for, with_changed, with_left}
use Rattle.sr_shadow.specs.Entry.{left_other}
use Rattle.sr_shadow.proofs.Keeping.{book_is, indexed_conv, indexed_left}
use Rattle.sr_shadow.proofs.Splits.{split, changed_split}
use Rattle.sr_shadow.proofs.indexed_book.IndexedBook.leave_place.Goals as goal

pub put-requires-clause-has : goal.put-requires-clause-has
put-requires-clause-has c =
    let s = split c.args.key c.self.inside.roll.entries c.args.entry.now c.self.invariant.0.book.distinct (ap (λ s. entry_for c.args.key s.book.entries) c.self.view_is ∙ c.requires) in
    (s.front, s.back, c.args.entry.now, s.is, refl)

pub invariant_of-self : goal.invariant_of-self
invariant_of-self c =
    let e = c.args.entry.now in
    let s = split c.args.key c.self.inside.roll.entries e c.self.invariant.0.book.distinct (ap (λ s. entry_for c.args.key s.book.entries) c.self.view_is ∙ c.requires) in
    let h = indexed_conv _ _ _ _ _ _ _ _ _ _ s.is refl c.self.invariant.0 in (
      indexed_conv _ _ _ _ _ _ _ _ _ _ (sym (c.put.ensures.entries s.front s.back e s.is refl)) (sym c.put.ensures.taken)
          (indexed_left _ s.front s.back e _ _ _ _ _ _ _ (c.leave.ensures.left s.front s.back h.book.once h.held) h),
      c.put.ensures.lives ∙ c.self.invariant.1,
    )

pub returns-clause-book : goal.returns-clause-book
returns-clause-book c =
    let e = c.args.entry.now in
    let s = split c.args.key c.self.inside.roll.entries e c.self.invariant.0.book.distinct (ap (λ s. entry_for c.args.key s.book.entries) c.self.view_is ∙ c.requires) in
    book_is _ _ _ _
    (c.put.ensures.entries s.front s.back e s.is refl ∙ sym (changed_split left_other c.args.key s.front s.back e s.own s.before s.after) ∙ ap (with_changed left_other c.args.key) (sym s.is))
    c.put.ensures.taken
    ∙ ap (λ s. with_left c.args.key s.book) c.self.view_is
