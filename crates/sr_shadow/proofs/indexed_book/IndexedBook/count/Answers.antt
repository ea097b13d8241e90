use Rattle.std.proofs.Common.{ap, sym, ◌∙◌}
use Rattle.sr_shadow.specs.Book.{count_of}
use Rattle.sr_shadow.proofs.Books.{count_past}
use Rattle.sr_shadow.proofs.indexed_book.IndexedBook.count.Goals as goal

pub returns-else-vip-lt16 : goal.returns-else-vip-lt16
returns-else-vip-lt16 c =
    sym (count_past c.args.vip c.args.version c.self.inside.roll.entries c.if-vip-lt16.false c.self.invariant.0.book.keys) ∙ ap (λ s. count_of c.args.vip c.args.version s.book.entries) c.self.view_is
