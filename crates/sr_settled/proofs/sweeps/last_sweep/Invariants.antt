use Rattle.std.proofs.Common.{◌≡◌, reverse, take}
use Rattle.sr_law.specs.Retire.{last_sweep}
use Rattle.sr_settled.proofs.sweeps.last_sweep.Given as goal

abbrev pub invariant-loop-line : goal.invariant-loop-line
invariant-loop-line l = l.last ≡ last_sweep (reverse (take l.line-index l.lines))
