use Rattle.std.proofs.Common.{refl, sym, ap, ◌∙◌}
use Rattle.sr_shadow.specs.Book.{entry_for, holder_of, with_changed, with_settled}
use Rattle.sr_shadow.specs.Entry.{settled}
use Rattle.sr_shadow.proofs.Keeping.{book_is, few_entries, indexed_conv, indexed_settled}
use Rattle.sr_shadow.proofs.Splits.{split, changed_split}
use Rattle.sr_shadow.proofs.indexed_book.IndexedBook.move_entry.Goals as goal

pub swap-requires-clause-has : goal.swap-requires-clause-has
swap-requires-clause-has c =
    let s = split c.args.key c.self.inside.roll.entries c.args.entry.now c.self.invariant.0.book.distinct (ap (λ s. entry_for c.args.key s.book.entries) c.self.view_is ∙ c.requires.registered) in
    (s.front, s.back, (indexed_conv _ _ _ _ _ _ _ _ _ _ s.is refl c.self.invariant.0).first)

pub swap-requires-clause-few : goal.swap-requires-clause-few
swap-requires-clause-few c = let h = c.self.invariant.0 in (c.self.inside.roll.entries, h.first, few_entries c.self.inside.roll.entries c.self.inside.roll.taken h.book)

pub swap-requires-2-clause-has : goal.swap-requires-2-clause-has
swap-requires-2-clause-has c =
    let s = split c.args.key c.self.inside.roll.entries c.args.entry.now c.self.invariant.0.book.distinct (ap (λ s. entry_for c.args.key s.book.entries) c.self.view_is ∙ c.requires.registered) in
    (s.front, s.back, (indexed_conv _ _ _ _ _ _ _ _ _ _ s.is refl c.self.invariant.0).second)

pub swap-requires-2-clause-few : goal.swap-requires-2-clause-few
swap-requires-2-clause-few c = let h = c.self.invariant.0 in (c.self.inside.roll.entries, h.second, few_entries c.self.inside.roll.entries c.self.inside.roll.taken h.book)

pub put-requires-clause-has : goal.put-requires-clause-has
put-requires-clause-has c =
    let s = split c.args.key c.self.inside.roll.entries c.args.entry.now c.self.invariant.0.book.distinct (ap (λ s. entry_for c.args.key s.book.entries) c.self.view_is ∙ c.requires.registered) in
    (s.front, s.back, c.args.entry.now, s.is, refl)

pub invariant_of-self : goal.invariant_of-self
invariant_of-self c =
    let e = c.args.entry.now in
    let s = split c.args.key c.self.inside.roll.entries e c.self.invariant.0.book.distinct (ap (λ s. entry_for c.args.key s.book.entries) c.self.view_is ∙ c.requires.registered) in
    let h = indexed_conv _ _ _ _ _ _ _ _ _ _ s.is refl c.self.invariant.0 in
    let free = sym (ap (holder_of c.args.place) s.is) ∙ ap (λ s. holder_of c.args.place s.book.entries) c.self.view_is ∙ c.requires.free in (
      indexed_conv _ _ _ _ _ _ _ _ _ _ (sym (c.put.ensures.entries s.front s.back e s.is refl)) (sym c.put.ensures.taken)
          (indexed_settled _ s.front s.back e c.args.place _ _ _ _ _ _ _ _ _ c.requires.alone free (c.swap.ensures.swapped s.front s.back h.first) (c.swap-2.ensures.swapped s.front s.back h.second)
          (c.settle.ensures s.front s.back h.book.once c.requires.alone free h.held) h),
      c.put.ensures.lives ∙ c.self.invariant.1,
    )

pub returns-clause-book : goal.returns-clause-book
returns-clause-book c =
    let e = c.args.entry.now in
    let s = split c.args.key c.self.inside.roll.entries e c.self.invariant.0.book.distinct (ap (λ s. entry_for c.args.key s.book.entries) c.self.view_is ∙ c.requires.registered) in
    book_is _ _ _ _
    (c.put.ensures.entries s.front s.back e s.is refl ∙ sym (changed_split (settled c.args.place) c.args.key s.front s.back e s.own s.before s.after) ∙ ap (with_changed (settled c.args.place) c.args.key) (sym s.is))
    c.put.ensures.taken
    ∙ ap (λ s. with_settled c.args.key c.args.place s.book) c.self.view_is
