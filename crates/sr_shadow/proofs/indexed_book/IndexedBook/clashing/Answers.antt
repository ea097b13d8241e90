use Rattle.std.proofs.Common.{ap, arith}
use Rattle.std.proofs.lemmas.Bool.Decides.{nat_tests}
use Rattle.sr_shadow.specs.Rivals.{own_outside}
use Rattle.sr_shadow.proofs.Classes.{clashing_counted}
use Rattle.sr_shadow.proofs.indexed_book.IndexedBook.clashing.Goals as goal

pub returns : goal.returns
returns c =
    grind (
      arith,
      nat_tests,
      clashing_counted c.args.self.now.layout.shape c.args.way c.args.key c.args.self.now.book.entries c.outsiders.ensures.distinct,
      c.outsiders.ensures.count,
      ap own_outside c.get.ensures,
      c.own_outside-own.ensures,
    )
