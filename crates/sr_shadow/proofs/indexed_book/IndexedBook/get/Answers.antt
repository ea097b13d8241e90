use Rattle.std.proofs.Common.{ap, sym, ◌∙◌}
use Rattle.sr_shadow.specs.Book.{entry_for}
use Rattle.sr_shadow.proofs.Books.{found_number}
use Rattle.sr_shadow.proofs.Splits.{split}
use Rattle.sr_shadow.proofs.indexed_book.IndexedBook.get.Goals as goal

pub returns-in-Some : goal.returns-in-Some
returns-in-Some c =
    let h = c.self.invariant.0 in
    let f = found_number (entry_for c.args.key c.self.inside.roll.entries) c.in-Some.number (sym (c.in-Some.ensures ∙ h.numbered c.args.key c.key_ranges.ensures)) in
    let s = split c.args.key c.self.inside.roll.entries f.0 h.book.distinct f.1 in
    c.get-in-Some.ensures s.front s.back f.0 s.is f.2 ∙ sym f.1 ∙ ap (λ s. entry_for c.args.key s.book.entries) c.self.view_is
