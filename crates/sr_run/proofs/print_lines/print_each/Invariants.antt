use Rattle.std.proofs.Common.{drop}
use Rattle.std.specs.List.{flat_map}
use Rattle.sr_text.specs.LineText.{line_text}
use Rattle.sr_io.proofs.Writing.{Wrote}
use Rattle.sr_run.proofs.print_lines.print_each.Given as goal

abbrev pub invariant-loop-line : goal.invariant-loop-line
invariant-loop-line g l = Wrote (g.K.Sink.known l.fn.sink) (g.K.Sink.known l.sink) (flat_map line_text (drop l.line-index l.lines)) (flat_map line_text l.lines)
