use Rattle.std.proofs.Common.{◌≡◌, reverse}
use Rattle.sr_law.specs.Cause.{all_in_use}
use Rattle.sr_settled.proofs.in_use.all_in_use.Given as goal

abbrev pub invariant-loop-version : goal.invariant-loop-version
invariant-loop-version l = l.all ≡ all_in_use (reverse l.lines) l.vip l.version
