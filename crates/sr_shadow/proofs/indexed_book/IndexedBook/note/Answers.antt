use Rattle.std.proofs.Common.{◌≡◌, refl, sym, ap, ◌∙◌, ◌++◌, ◌∷◌}
use Rattle.sr_shadow.specs.Book.{entry_for, with_changed}
use Rattle.sr_shadow.proofs.Keeping.{book_is, indexed_conv, indexed_same}
use Rattle.sr_shadow.proofs.Splits.{split, changed_split, some_same}
use Rattle.sr_shadow.proofs.indexed_book.IndexedBook.note.Goals as goal

pub put-requires-clause-has : goal.put-requires-clause-has
put-requires-clause-has c =
    let r = c.requires in
    let s = split c.args.key c.self.inside.roll.entries r.0 c.self.invariant.0.book.distinct (ap (λ s. entry_for c.args.key s.book.entries) c.self.view_is ∙ r.1) in
    (s.front, s.back, r.0, s.is, sym r.6)

pub invariant_of-self : goal.invariant_of-self
invariant_of-self c =
    let r = c.requires in
    let s = split c.args.key c.self.inside.roll.entries r.0 c.self.invariant.0.book.distinct (ap (λ s. entry_for c.args.key s.book.entries) c.self.view_is ∙ r.1) in (
      indexed_conv _ _ _ _ _ _ _ _ _ _ (sym (c.put.ensures.entries s.front s.back r.0 s.is (sym r.6))) (sym c.put.ensures.taken)
          (indexed_same _ s.front s.back r.0 c.args.entry _ _ _ _ _ _ r.2 r.3 r.4 r.5 r.6 (indexed_conv _ _ _ _ _ _ _ _ _ _ s.is refl c.self.invariant.0)),
      c.put.ensures.lives ∙ c.self.invariant.1,
    )

pub returns-clause-book : goal.returns-clause-book
returns-clause-book c = λ change e found is.
    let r = c.requires in
    let s = split c.args.key c.self.inside.roll.entries e c.self.invariant.0.book.distinct (ap (λ s. entry_for c.args.key s.book.entries) c.self.view_is ∙ found) in
    let told : e.taken ≡ c.args.entry.taken = ap (λ y. y.taken) (some_same e r.0 (sym found ∙ r.1)) ∙ sym r.6 in
    book_is _ _ _ _
    (c.put.ensures.entries s.front s.back e s.is told ∙ ap (λ y. s.front ++ y ∷ s.back) is ∙ sym (changed_split change c.args.key s.front s.back e s.own s.before s.after) ∙ ap (with_changed change c.args.key) (sym s.is))
    c.put.ensures.taken
    ∙ ap (λ s. record s.book { entries = with_changed change c.args.key s.book.entries }) c.self.view_is
