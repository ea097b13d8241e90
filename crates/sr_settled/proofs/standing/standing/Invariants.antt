use Rattle.std.proofs.Common.{◌≡◌, ◌-◌, ◌++◌, [], length, reverse, take}
use Rattle.sr_law.specs.Settled.{standing}
use Rattle.sr_settled.proofs.standing.standing.Given as goal

abbrev pub invariant-loop-later : goal.invariant-loop-later
invariant-loop-later l =
    standing l.c [] (reverse l.lines) ≡ l.ticks.items ++ standing l.c (reverse l.cleared.items) (reverse (take (length l.lines - l.later) l.lines))
