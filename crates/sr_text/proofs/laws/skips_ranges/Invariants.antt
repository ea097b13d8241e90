use Rattle.std.proofs.Common.{take}
use Rattle.std.specs.List.{All}
use Rattle.sr_text.specs.Ranges.{IsSkipped}
use Rattle.sr_text.proofs.laws.skips_ranges.Given as goal

abbrev pub invariant-loop-skip : goal.invariant-loop-skip
invariant-loop-skip l = All IsSkipped (take l.skip-index l.skips)
