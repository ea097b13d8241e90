use Rattle.std.proofs.Common.{ap, sym}
use Rattle.sr_shadow.specs.Entry.{closed}
use Rattle.sr_shadow.proofs.Splits.{changed_none, registered_none}
use Rattle.sr_shadow.proofs.indexed_book.IndexedBook.close.Goals as goal

pub returns-in-None-clause-book : goal.returns-in-None-clause-book
returns-in-None-clause-book c =
    sym (ap (λ es. record c.args.self.now.book { entries = es }) (changed_none closed c.args.key c.args.self.now.book.entries (registered_none c.args.key c.args.self.now.book.entries (sym c.in-None.ensures))))
