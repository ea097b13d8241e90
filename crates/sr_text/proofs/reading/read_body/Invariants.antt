use Rattle.std.proofs.Common.{◌≡◌, ℕ, ◌+◌, List, []}
use Rattle.sr_text.specs.Adding.{Reached}
use Rattle.sr_text.specs.Log.{IsLog, line_count}
use Rattle.sr_text.proofs.reading.read_body.Given as goal

abbrev pub invariant-loop-number : goal.invariant-loop-number
invariant-loop-number g l = record {
  numbers : IsLog l.log.skips.items l.log.lines.items;
  lines : l.number ≡ 1 + line_count l.log.skips.items l.log.lines.items;
  reached : (xs : List ℕ) → Reached [] [] l.fn.window (g.S.Source.known l.fn.source).left xs → Reached l.log.skips.items l.log.lines.items l.window (g.S.Source.known l.source).left xs;
  still : (g.S.Source.known l.source).faults ≡ (g.S.Source.known l.fn.source).faults;
}
