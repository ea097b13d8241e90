use Rattle.std.proofs.Common.{◌≡◌, reverse, take}
use Rattle.sr_law.specs.Final.{all_held_answered}
use Rattle.sr_audit.specs.HeldCounts.{TellsHeld}
use Rattle.sr_audit.proofs.pairing.all_held_answered.Given as goal

abbrev pub invariant-loop-i : goal.invariant-loop-i
invariant-loop-i l = record {
  held : TellsHeld l.held (reverse (take l.i l.lines));
  all : l.all ≡ all_held_answered (reverse l.lines) (reverse (take l.i l.lines));
}
