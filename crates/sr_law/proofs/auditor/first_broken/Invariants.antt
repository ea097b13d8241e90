use Rattle.std.proofs.Common.{◌≡◌, reverse, take}
use Rattle.sr_law.specs.Lawful.{first_broken}
use Rattle.sr_law.specs.Retire.{endings_of}
use Rattle.sr_law.proofs.auditor.first_broken.Given as goal

abbrev pub invariant-loop-i : goal.invariant-loop-i
invariant-loop-i l = l.first ≡ first_broken l.setup (endings_of (reverse l.all)) (reverse (take l.i l.all))
