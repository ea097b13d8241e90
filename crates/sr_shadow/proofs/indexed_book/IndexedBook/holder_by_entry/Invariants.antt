use Rattle.std.proofs.Common.{◌≡◌, drop}
use Rattle.sr_shadow.specs.Book.{holder_of}
use Rattle.sr_shadow.proofs.indexed_book.IndexedBook.holder_by_entry.Given as goal

abbrev pub invariant-loop-i : goal.invariant-loop-i
invariant-loop-i l = holder_of l.place (drop l.i l.self.book.entries) ≡ holder_of l.place l.self.book.entries
