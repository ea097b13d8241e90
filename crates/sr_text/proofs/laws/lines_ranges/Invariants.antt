use Rattle.std.proofs.Common.{take}
use Rattle.std.specs.List.{All}
use Rattle.sr_text.specs.Ranges.{IsLine}
use Rattle.sr_text.proofs.laws.lines_ranges.Given as goal

abbrev pub invariant-loop-line : goal.invariant-loop-line
invariant-loop-line l = All IsLine (take l.line-index l.lines)
