use Rattle.std.proofs.Common.{◌≡◌, reverse, take}
use Rattle.sr_law.specs.Retire.{numbered_sweep}
use Rattle.sr_settled.proofs.sweeps.numbered_sweep.Given as goal

abbrev pub invariant-loop-line : goal.invariant-loop-line
invariant-loop-line l = l.last ≡ numbered_sweep (reverse (take l.line-index l.lines)) l.number
