use Rattle.std.proofs.Common.{refl, sym, ap, ◌∙◌}
use Rattle.sr_shadow.specs.Book.{entry_for, without_key, with_retired}
use Rattle.sr_shadow.proofs.Keeping.{book_is, indexed_conv, indexed_less}
use Rattle.sr_shadow.proofs.Splits.{split, without_split}
use Rattle.sr_shadow.proofs.indexed_book.IndexedBook.drop_entry.Goals as goal

pub drop_out-requires-2 : goal.drop_out-requires-2
drop_out-requires-2 c =
    let s = split c.args.key c.self.inside.roll.entries c.args.entry.now c.self.invariant.0.book.distinct (ap (λ s. entry_for c.args.key s.book.entries) c.self.view_is ∙ c.requires) in
    (s.front, s.back, (indexed_conv _ _ _ _ _ _ _ _ _ _ s.is refl c.self.invariant.0).counted)

pub drop_out-requires-3-clause-has : goal.drop_out-requires-3-clause-has
drop_out-requires-3-clause-has c =
    let s = split c.args.key c.self.inside.roll.entries c.args.entry.now c.self.invariant.0.book.distinct (ap (λ s. entry_for c.args.key s.book.entries) c.self.view_is ∙ c.requires) in
    (s.front, s.back, (indexed_conv _ _ _ _ _ _ _ _ _ _ s.is refl c.self.invariant.0).first)

pub drop_out-requires-4-clause-has : goal.drop_out-requires-4-clause-has
drop_out-requires-4-clause-has c =
    let s = split c.args.key c.self.inside.roll.entries c.args.entry.now c.self.invariant.0.book.distinct (ap (λ s. entry_for c.args.key s.book.entries) c.self.view_is ∙ c.requires) in
    (s.front, s.back, (indexed_conv _ _ _ _ _ _ _ _ _ _ s.is refl c.self.invariant.0).second)

pub put-requires-clause-has : goal.put-requires-clause-has
put-requires-clause-has c =
    let s = split c.args.key c.self.inside.roll.entries c.args.entry.now c.self.invariant.0.book.distinct (ap (λ s. entry_for c.args.key s.book.entries) c.self.view_is ∙ c.requires) in
    (s.front, s.back, c.args.entry.now, s.is, refl)

pub invariant_of-self : goal.invariant_of-self
invariant_of-self c =
    let e = c.args.entry.now in
    let s = split c.args.key c.self.inside.roll.entries e c.self.invariant.0.book.distinct (ap (λ s. entry_for c.args.key s.book.entries) c.self.view_is ∙ c.requires) in
    let h = indexed_conv _ _ _ _ _ _ _ _ _ _ s.is refl c.self.invariant.0 in (
      indexed_conv _ _ _ _ _ _ _ _ _ _ (sym (c.put.ensures.entries s.front s.back e s.is refl)) (sym c.put.ensures.taken)
          (indexed_less _ s.front s.back e _ _ _ _ _ _ _ _ _ _ _ (c.drop_out.ensures.less s.front s.back e s.own s.before s.after h.numbered) (c.drop_out-2.ensures s.front s.back h.counted)
          (c.drop_out-3.ensures.less s.front s.back h.first) (c.drop_out-4.ensures.less s.front s.back h.second) (c.free.ensures s.front s.back h.book.once h.held) h),
      c.put.ensures.lives ∙ c.self.invariant.1,
    )

pub returns-clause-book : goal.returns-clause-book
returns-clause-book c =
    let e = c.args.entry.now in
    let s = split c.args.key c.self.inside.roll.entries e c.self.invariant.0.book.distinct (ap (λ s. entry_for c.args.key s.book.entries) c.self.view_is ∙ c.requires) in
    book_is _ _ _ _
    (c.put.ensures.entries s.front s.back e s.is refl ∙ sym (without_split c.args.key s.front s.back e s.own s.before s.after) ∙ ap (without_key c.args.key) (sym s.is))
    c.put.ensures.taken
    ∙ ap (λ s. with_retired c.args.key s.book) c.self.view_is
