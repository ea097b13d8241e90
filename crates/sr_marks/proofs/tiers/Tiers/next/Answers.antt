use Rattle.std.proofs.Common.{length, ap, sym, ◌∙◌, arith}
use Rattle.std.proofs.lemmas.Bool.{eqb-true}
use Rattle.std.proofs.lemmas.List.{nil_from_length}
use Rattle.sr_marks.specs.Words.{lowest_of}
use Rattle.sr_marks.proofs.Tiering.{next-past}
use Rattle.sr_marks.proofs.tiers.Tiers.next.Goals as goal

pub returns-then-is_empty : goal.returns-then-is_empty
returns-then-is_empty c =
    let none = eqb-true _ 0 (sym c.is_empty.ensures ∙ c.if-is_empty.true) in
    let empty = nil_from_length c.self.inside.tiers.items (omega arith) in
    let size = ap length (sym c.self.view_is ∙ ap lowest_of empty) in
    sym (next-past c.args.from c.args.self.now (omega arith))
