use Rattle.std.proofs.Common.{List, subst}
use Rattle.std.specs.List.{All}
use Rattle.std.proofs.lemmas.List.{take_all}
use Rattle.std.proofs.lemmas.List.Elements.{All-more}
use Rattle.sr_law.specs.declared.line.Line.{Line}
use Rattle.sr_text.specs.Ranges.{IsLine}
use Rattle.sr_text.proofs.laws.lines_ranges.Goals as goal

pub loop-line-preserved : goal.loop-line-preserved
loop-line-preserved c = All-more IsLine c.args.lines.now c.loop-line.line-index c.line-item.result c.loop-line-test.true c.loop-line.invariant (subst IsLine c.line-item.is c.line_ranges.ensures)

pub returns : goal.returns
returns c = subst (λ (l : List Line). All IsLine l) (take_all c.loop-line.line-index c.args.lines.now c.loop-line-test.false) c.loop-line.invariant
