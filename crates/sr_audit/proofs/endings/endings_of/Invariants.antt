use Rattle.std.proofs.Common.{reverse, take}
use Rattle.sr_audit.specs.Endings.{AreEndingsOf}
use Rattle.sr_audit.proofs.endings.endings_of.Given as goal

abbrev pub invariant-loop-line : goal.invariant-loop-line
invariant-loop-line l = AreEndingsOf l.endings.items (reverse (take l.line-index l.lines))
