use Rattle.std.proofs.Common.{◌≡◌, reverse, take}
use Rattle.sr_law.specs.Held.{recorded_giving}
use Rattle.sr_law.proofs.filter.recorded_giving.Given as goal

abbrev pub invariant-loop-i : goal.invariant-loop-i
invariant-loop-i l = l.giving ≡ recorded_giving (reverse (take l.i l.before)) l.vip
