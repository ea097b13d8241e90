use Rattle.std.proofs.Common.{ap, sym, ◌∙◌, add-one, drop}
use Rattle.std.specs.Prelude.{option_to_list}
use Rattle.sr_shadow.specs.Book.{holder_of}
use Rattle.sr_shadow.proofs.Keeping.{scan_found, scan_on}
use Rattle.sr_shadow.proofs.indexed_book.IndexedBook.holder_by_entry.Goals as goal

pub returns-in-Some : goal.returns-in-Some
returns-in-Some c =
    sym (scan_found c.args.place c.args.self.now.book.entries c.loop-i.i c.in-Some.key (ap (λ r. holder_of c.args.place (option_to_list r)) (sym c.at.ensures) ∙ sym c.in-Some.ensures)) ∙ c.loop-i.invariant

pub loop-i-preserved : goal.loop-i-preserved
loop-i-preserved c =
    ap (λ m. holder_of c.args.place (drop m c.args.self.now.book.entries)) (add-one c.loop-i.i)
    ∙ sym (scan_on c.args.place c.args.self.now.book.entries c.loop-i.i (ap (λ r. holder_of c.args.place (option_to_list r)) (sym c.at.ensures) ∙ sym c.in-None.ensures)) ∙ c.loop-i.invariant
