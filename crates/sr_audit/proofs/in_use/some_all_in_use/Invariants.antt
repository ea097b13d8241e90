use Rattle.std.proofs.Common.{◌≡◌, reverse}
use Rattle.sr_law.specs.Cause.{some_all_in_use}
use Rattle.sr_audit.proofs.in_use.some_all_in_use.Given as goal

abbrev pub invariant-loop-vip : goal.invariant-loop-vip
invariant-loop-vip l = l.some ≡ some_all_in_use (reverse l.before) l.versions l.vip
