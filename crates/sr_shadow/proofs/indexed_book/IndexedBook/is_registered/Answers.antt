use Rattle.std.proofs.Common.{ap, sym, ◌∙◌, is_some}
use Rattle.sr_shadow.proofs.Books.{registered_found}
use Rattle.sr_shadow.proofs.indexed_book.IndexedBook.is_registered.Goals as goal

pub returns-in-Some : goal.returns-in-Some
returns-in-Some c = ap is_some c.in-Some.ensures ∙ sym (registered_found c.args.key c.args.self.now.book.entries)

pub returns-in-None : goal.returns-in-None
returns-in-None c = ap is_some c.in-None.ensures ∙ sym (registered_found c.args.key c.args.self.now.book.entries)
