use Rattle.std.proofs.Common.{◌≡◌, reverse, take}
use Rattle.sr_law.specs.Given.{last_version}
use Rattle.sr_law.proofs.givings.last_version.Given as goal

abbrev pub invariant-loop-line : goal.invariant-loop-line
invariant-loop-line l = l.last ≡ last_version (reverse (take l.line-index l.before)) l.vip l.version
