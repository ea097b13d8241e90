use Rattle.std.proofs.Common.{reverse, take}
use Rattle.sr_audit.specs.HeldCounts.{TellsHeld}
use Rattle.sr_audit.proofs.pairing.all_held.Given as goal

abbrev pub invariant-loop-i : goal.invariant-loop-i
invariant-loop-i l = TellsHeld l.held (reverse (take l.i l.lines))
