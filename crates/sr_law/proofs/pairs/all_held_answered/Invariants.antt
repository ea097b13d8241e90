use Rattle.std.proofs.Common.{◌≡◌, reverse, take}
use Rattle.sr_law.specs.Final.{all_held_answered}
use Rattle.sr_law.proofs.pairs.all_held_answered.Given as goal

abbrev pub invariant-loop-i : goal.invariant-loop-i
invariant-loop-i l = l.every ≡ all_held_answered (reverse l.all) (reverse (take l.i l.all))
