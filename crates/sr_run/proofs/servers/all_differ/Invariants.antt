use Rattle.std.proofs.Common.{◌≡◌, drop}
use Rattle.sr_run.specs.Servers.{all_differ}
use Rattle.sr_run.proofs.servers.all_differ.Given as goal

-- no address so far stands again, so what is left decides
abbrev pub invariant-loop-i : goal.invariant-loop-i
invariant-loop-i l = all_differ (drop l.i l.known) ≡ all_differ l.known
